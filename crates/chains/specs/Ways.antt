-- Going from a thread to the resource it waits for, from a resource to its holder, and so on. Assumes nothing.
use Rattle.std.specs.Prelude.{ℕ, zero, suc, ◌≤◌, ◌<◌, cond, List, leb}
use Rattle.table.specs.Table.{at}
use Rattle.chains.specs.Marks.{marked, mark}

-- From thread t, with n nodes left: `way` with all threads marked that are on the way from it, up to the first that is seen or waits
-- for nothing; 0 if the nodes run out or there is no such thread or resource.
unfoldable mutual
  pub thread_way : ℕ → List ℕ → List ℕ → ℕ → ℕ → ℕ → ℕ
  thread_way zero waits holders seen way t = 0
  thread_way (suc n) waits holders seen way t =
      cond (leb 32 t) 0 (cond (marked seen t) (mark way t) (cond (leb 16 (at waits t)) (mark way t) (resource_way n waits holders seen (mark way t) (at waits t))))

  pub resource_way : ℕ → List ℕ → List ℕ → ℕ → ℕ → ℕ → ℕ
  resource_way zero waits holders seen way r = 0
  resource_way (suc n) waits holders seen way r = cond (leb 16 r) 0 (thread_way n waits holders seen way (at holders r))

-- From thread t, going to the resource it waits for, to its holder and so on, the way ends, and passes k holders.
pub data Ending (waits holders : List ℕ) : ℕ → ℕ → Type 0 where
  here : {t : ℕ} → t < 32 → 16 ≤ at waits t → Ending waits holders t zero
  goes_on : {t k : ℕ} → t < 32 → at waits t < 16 → Ending waits holders (at holders (at waits t)) k → Ending waits holders t (suc k)

-- the way from thread t ends
abbrev pub EndsFrom : List ℕ → List ℕ → ℕ → Type 0
EndsFrom waits holders t = (k : ℕ) × Ending waits holders t k
