-- `request::climb::climb` meets its contract. The loop's invariant: from here on numbers rise too, and the way up from here, after the n
-- threads so far, is the way up from the start. Assumes nothing.
use Prim.Native.Nat.{ℕ, suc, ◌+◌, ◌≤◌, ◌<◌, ◌-◌, max}
use mathlib.Core.Path.{◌≡◌, ◌∙◌}
use mathlib.Core.List.{List}
use native.Mathlib.Nat.{zero-add}
use native.Mathlib.Omega.{arith}
use lib.ListN.{length, set, length-set}
use Rattle.protocol.specs.Sets.{Max}
use Rattle.table.specs.Table.{at}
use Rattle.chains.specs.Law.{Compared}
use Rattle.request.specs.Climb.{Climbed, on, Rising, rises}
use Rattle.request.proofs.climb.climb.Given as goal

-- a way starts at a thread
pub way_low : {queue lengths holders waits owns values : List ℕ} {v x k : ℕ} → Rising queue lengths holders waits owns v values x k → x < 32
way_low (rises low m up) = low

module _ (holders waits : List ℕ) (v : ℕ) where
  -- numbers rise from x, and with the n threads so far the way has 17 at most
  abbrev pub Rises : List ℕ → List ℕ → List ℕ → List ℕ → ℕ → ℕ → Type 0
  Rises queue lengths owns values x n = (k : ℕ) × (n + k ≤ 17) × Rising queue lengths holders waits owns v values x k

  module _ (queue lengths owns values : List ℕ) (x n : ℕ) where
    abbrev pub Afresh : ℕ → Type 0
    Afresh m = Max ◌≤◌ (Compared queue lengths holders values 16 (at owns x) x) m

    -- x is not one too many
    pub few : Rises queue lengths owns values x n → n ≤ 16
    few (k, b, rises low m up) = omega arith

    -- what working x out afresh gives, where its number is at least v, and where it is below
    pub same : Rises queue lengths owns values x n → v ≤ at values x → Afresh (at values x)
    same (k, b, rises low m up) h = let e : max (at values x) v ≡ at values x = omega (arith, h) in rw e at m

    pub higher : Rises queue lengths owns values x n → at values x < v → Afresh v
    higher (k, b, rises low m up) h = let e : max (at values x) v ≡ v = omega (arith, h) in rw e at m

    pub rises_on : (y : ℕ) → at values x < v → at waits x < 16 → y ≡ at holders (at waits x) → Rises queue lengths owns values x n → Rises queue lengths owns (set values x v) y (n + 1)
    rises_on y rose wait e (k, b, rises {k = j} low m up) = (j, omega arith, rw e (up rose wait))

  module _ (values₀ : List ℕ) (x₀ : ℕ) where
    -- numbers rise from x, and the way up from there continues the one from the start
    abbrev pub Way : List ℕ → List ℕ → List ℕ → List ℕ → ℕ → ℕ → Type 0
    Way queue lengths owns values x n = Rises queue lengths owns values x n
        × ((k : ℕ) (e : List ℕ) → Climbed queue lengths holders waits owns values x k e → Climbed queue lengths holders waits owns values₀ x₀ (n + k) e)

    abbrev pub Going : List ℕ → ℕ → ℕ → Type 0
    Going values x n =
        (x < 32) × (n ≤ 16) × (length values ≡ 32)
        × ((queue lengths owns : List ℕ) (k : ℕ) → k ≤ 17 → Rising queue lengths holders waits owns v values₀ x₀ k → Way queue lengths owns values x n)

    -- there are queues and own numbers from which numbers rise
    abbrev pub SomeRise : Type 0
    SomeRise = (queue lengths owns : List ℕ) × (k : ℕ) × (k ≤ 17) × Rising queue lengths holders waits owns v values₀ x₀ k

    pub begins : SomeRise → length values₀ ≡ 32 → (x : ℕ) → x ≡ x₀ → Going values₀ x 0
    begins (queue, lengths, owns, k, b, r) size x e = rw e (way_low r, omega arith, size, λ queue lengths owns k b r. ((k, omega (arith, b), r), λ i f w. rw (zero-add i) w))

    pub goes_up : SomeRise → (values : List ℕ) (x n y : ℕ) → at values x < v → at waits x < 16 → y ≡ at holders (at waits x) → Going values x n → Going (set values x v) y (n + 1)
    goes_up (places, lengths, numbers, i, few_left, start) values x n y rose wait e (low, short, size, way) =
        let up = rises_on places lengths numbers values x n y rose wait e (way places lengths numbers i few_left start).0 in
        (way_low up.2, few places lengths numbers (set values x v) y (n + 1) up, length-set values x v ∙ size, λ queue lengths owns k b r. further queue lengths owns (way queue lengths owns k b r))
      where
        further : (queue lengths owns : List ℕ) → Way queue lengths owns values x n → Way queue lengths owns (set values x v) y (n + 1)
        further queue lengths owns (r, g) = (
          rises_on queue lengths owns values x n y rose wait e r,
          λ i f w. let q : n + 1 + i ≡ n + suc i = omega arith in rw q (g (suc i) f (on (higher queue lengths owns values x n r rose) (λ d. absurd (omega (arith, d, rose))) wait (rw e at w))),
        )

abbrev pub invariant-loop-current : goal.invariant-loop-current
invariant-loop-current l = Going l.graph.holders l.graph.waits l.v l.initial.current l.start l.current l.at l.n

abbrev pub decreases-loop-current : goal.decreases-loop-current
decreases-loop-current l = 17 - l.n
