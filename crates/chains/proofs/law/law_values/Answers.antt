-- `chains::law::law_values` meets its contract. The loop's invariant: `best` has for each thread the highest of what the resources passed
-- compare. Assumes nothing.
use Prim.Native.Nat.{ℕ, ◌+◌, ◌≤◌, ◌<◌}
use mathlib.Core.Path.{◌≡◌, refl, sym, ◌∙◌}
use mathlib.Core.List.{List}
use mathlib.Core.Logic.{inl, inr, by_cases}
use native.Mathlib.Decide.{ℕ_discrete}
use native.Mathlib.Omega.{arith}
use lib.ListN.{length, set, length-set}
use lib.Seq.{get_or-set_same, get_or-set_other}
use Rattle.protocol.specs.Sets.{only, ◌∪◌, Max}
use Rattle.table.specs.Table.{at}
use Rattle.chains.specs.Law.{entries_of, WaitersNumbers}
use Rattle.chains.proofs.law.Maxima.{few_entries, compared_all, compared_next}
use Rattle.chains.proofs.law.law_values.Invariants.{Right}
use Rattle.chains.proofs.law.law_values.Goals.{then-n-gt1+then-h-lt-THREADS, else-n-gt1, else-n-gt1-via-then-n-gt1+else-h-lt-THREADS, else-n-gt1-via-else-n-gt1}
use Rattle.chains.proofs.law.law_values.Goals as goal

module _ (queue lengths holders current own : List ℕ) where
  raised : (best : List ℕ) (r h v : ℕ) → length best ≡ 32 → h < 32 → h ≡ at holders r → Max ◌≤◌ (only (at best h) ∪ WaitersNumbers queue current r (entries_of (at lengths r))) v
      → Right queue lengths holders current own r best → Right queue lengths holders current own (r + 1) (set best h v)
  raised best r h v long k e p all t l =
      compared_next queue lengths holders current (at own t) t r
      (by_cases (ℕ_discrete t h) (λ d. inl (rw d (sym e), rw (d, get_or-set_same best h v 0 (omega arith)) p)) (λ d. inr ((λ z. absurd (d (sym z ∙ sym e))), get_or-set_other best h t v 0 d)))
      (all t l)

  passed : (best : List ℕ) (r : ℕ) → ((t : ℕ) → t < 32 → at holders r ≡ t → entries_of (at lengths r) ≤ 1)
      → Right queue lengths holders current own r best → Right queue lengths holders current own (r + 1) best
  passed best r none all t l = compared_next queue lengths holders current (at own t) t r (inr (none t l, refl)) (all t l)

pub loop-r-preserved : goal.loop-r-preserved
loop-r-preserved c =
    let rows = c.args.rows.now in
    let w = c.args.w.now in
    let b = c.loop-r in
    let raise = raised rows.queue rows.length w.graph.holders w.current w.own b.best b.r in
    let pass = passed rows.queue rows.length w.graph.holders w.current w.own b.best b.r in
    elim c.if-n-gt1.branch [
      | then-n-gt1+then-h-lt-THREADS v ↦
          (rw (v.best-is, length-set) b.invariant.0, rw v.best-is (raise _ _ b.invariant.0 v.if-h-lt-THREADS.true c.from-h.ensures (rw v.entries.ensures.0 at v.highest_waiter.ensures) b.invariant.1))
      | else-n-gt1 v ↦
          let none : (t : ℕ) → t < 32 → at w.graph.holders b.r ≡ t → entries_of (at rows.length b.r) ≤ 1 = λ t l e. elim v.else-n-gt1.branch [
            | else-n-gt1-via-then-n-gt1+else-h-lt-THREADS u ↦ absurd (omega (arith, u.if-h-lt-THREADS.false, c.from-h.ensures))
            | else-n-gt1-via-else-n-gt1 u ↦ few_entries (at rows.length b.r) (omega (arith, u.if-n-gt1.false))
          ] in
          (rw v.best-is b.invariant.0, rw v.best-is (pass none b.invariant.1))
    ]

pub returns : goal.returns
returns c =
    let rows = c.args.rows.now in
    let w = c.args.w.now in
    let few = c.rows_to_compare-r-end in
    let e : c.loop-r.r ≡ few.result = omega arith in
    λ t l. compared_all rows.queue rows.length w.graph.holders w.current (at w.own t) t few.ensures.0 few.ensures.1 (rw e at (c.loop-r.invariant.1 t l))
