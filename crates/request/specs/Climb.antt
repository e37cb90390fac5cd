-- Going up from holder to holder as the code goes about it, in numbers. Assumes nothing.
use Rattle.std.specs.Prelude.{ℕ, suc, ◌≤◌, ◌<◌, max, ◌≢◌, List, set}
use Rattle.protocol.specs.Sets.{Max}
use Rattle.table.specs.Table.{at}
use Rattle.chains.specs.Law.{Compared}

-- From x, with the numbers c: x worked out afresh stays the same, or it changes and x waits for nothing, or it changes and its
-- holder is next. The way up works out k threads and leaves the numbers e.
pub data Climbed (queue lengths holders waits owns : List ℕ) : List ℕ → ℕ → ℕ → List ℕ → Type 0 where
  stays : {c : List ℕ} {x : ℕ} → Max ◌≤◌ (Compared queue lengths holders c 16 (at owns x) x) (at c x) → Climbed queue lengths holders waits owns c x 1 c
  last : {c : List ℕ} {x v : ℕ} → Max ◌≤◌ (Compared queue lengths holders c 16 (at owns x) x) v → v ≢ at c x → 16 ≤ at waits x → Climbed queue lengths holders waits owns c x 1 (set c x v)
  on : {c e : List ℕ} {x v k : ℕ} → Max ◌≤◌ (Compared queue lengths holders c 16 (at owns x) x) v → v ≢ at c x → at waits x < 16
      → Climbed queue lengths holders waits owns (set c x v) (at holders (at waits x)) k e → Climbed queue lengths holders waits owns c x (suc k) e

-- Numbers rise to v. From x, with the numbers c: x worked out afresh is the higher of its number and v, and if v is higher and x waits
-- for something, then with x at v the same is so from its holder. The way up comes to k threads at most.
pub data Rising (queue lengths holders waits owns : List ℕ) (v : ℕ) : List ℕ → ℕ → ℕ → Type 0 where
  rises : {c : List ℕ} {x k : ℕ} → x < 32 → Max ◌≤◌ (Compared queue lengths holders c 16 (at owns x) x) (max (at c x) v)
      → (at c x < v → at waits x < 16 → Rising queue lengths holders waits owns v (set c x v) (at holders (at waits x)) k) → Rising queue lengths holders waits owns v c x (suc k)
