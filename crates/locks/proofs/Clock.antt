-- The clock is the number of accepted events, on any table: an accepted one finds it before its end and adds 1, a refused one leaves the table. Assumes nothing.
use Prim.Native.Nat.{ℕ, zero, suc, ◌+◌, ◌≤◌}
use mathlib.Core.Path.{◌≡◌, refl, sym, ◌∙◌, ap}
use mathlib.Core.Bool.{Bool, true, false, cond, not, ◌&&◌}
use mathlib.Core.Logic.{◌≢◌}
use mathlib.Core.List.{List, ◌∷◌}
use mathlib.Core.Option.{Option, none, some}
use native.Mathlib.Decide.{ℕ_discrete}
use native.Mathlib.Omega.{arith}
use borrow.Author.Tests.{eqb-false, ne_eqb, not-false}
use lib.Dec.{eqb, leb}
use Rattle.protocol.specs.Events.{Event, Create, Exit, Set, P, «V»}
use Rattle.table.specs.declared.Table.{Table}
use Rattle.table.specs.Table.{queues}
use Rattle.table.proofs.Tests.Reflect.{tells_le, tells_both}
use Rattle.refusals.specs.declared.Record.{Record}
use Rattle.refusals.specs.Refusals.{Refusal, lowest, refusals, unsound, by_record, by_thread}
use Rattle.events.specs.Events.{settled, changed, with_slot, with_queue, heir, named, event_of}
use Rattle.events.proofs.Accepted.Named.{names_create, names_exit, names_set, names_request, names_release}
use Rattle.locks.specs.declared.Done.{Done}
use Rattle.locks.specs.Answers.{accepted, refused, carried_out, answer_of}
use Rattle.locks.proofs.Answered.{refused_is, let_through}

-- where no refusal of a list applies, the first doesn't, and no other
first_not : (r : Refusal) (rs : List Refusal) → r.number ≢ 0 → lowest (r ∷ rs) ≡ 0 → (r.applies ≡ false) × (lowest rs ≡ 0)
unfolding lowest
first_not r rs n z = go r.applies z
  where
    go : (b : Bool) → cond b r.number (lowest rs) ≡ 0 → (b ≡ false) × (lowest rs ≡ 0)
    go true z = absurd (n z)
    go false z = (refl, z)

-- the event that is carried out adds 1 to the clock
adds_one : (t : Table) (ev : Event) → (settled (changed t ev)).clock ≡ t.clock + 1
unfolding settled changed with_slot with_queue
adds_one t (Create th prio) = refl
adds_one t (Exit th) = refl
adds_one t (Set th prio) = refl
adds_one t (P th cs) = refl
adds_one t («V» th cs next) = refl

module _ (t : Table) (e : Record) where
  -- the number of an answer is that of the refusals
  number_is : (answer_of t e).answer.number ≡ lowest (refusals t e)
  unfolding answer_of accepted refused carried_out
  number_is = go (lowest (refusals t e)) (event_of t e)
    where
      go : (n : ℕ) (ev : Option Event) → (cond (eqb n 0) (carried_out t ev) (refused t n)).answer.number ≡ n
      go zero none = refl
      go zero (some ev) = refl
      go (suc n) ev = rw (ne_eqb (suc n) 0 (λ q. absurd (omega arith)))

  module _ (z : (answer_of t e).answer.number ≡ 0) where
    none_applies : lowest (refusals t e) ≡ 0
    none_applies = sym number_is ∙ z

    -- so the kind is one of the five, and the clock is not at its end
    passed : (not (leb 1 e.kind && leb e.kind 5) ≡ false) × (eqb t.clock 65535 ≡ false)
    unfolding refusals unsound by_record by_thread
    passed =
        let sound = first_not _ _ (λ q. absurd (omega arith)) none_applies in
        let kind = first_not _ _ (λ q. absurd (omega arith)) sound.1 in
        let thread = first_not _ _ (λ q. absurd (omega arith)) kind.1 in
        let form = first_not _ _ (λ q. absurd (omega arith)) thread.1 in
        let clock = first_not _ _ (λ q. absurd (omega arith)) form.1 in
        (kind.0, clock.0)

    kind_known : (1 ≤ e.kind) × (e.kind ≤ 5)
    kind_known = (tells_both (tells_le 1 e.kind) (tells_le e.kind 5)).0 (not-false _ passed.0)

    pub before_end : t.clock ≢ 65535
    before_end = eqb-false t.clock 65535 passed.1

    named_one : (ev : Event) × (event_of t e ≡ some ev)
    unfolding event_of
    named_one = go (ℕ_discrete e.kind 1) (ℕ_discrete e.kind 2) (ℕ_discrete e.kind 3) (ℕ_discrete e.kind 4)
      where
        next : Option ℕ
        next = heir t (queues t e.argument)

        go : Dec (e.kind ≡ 1) → Dec (e.kind ≡ 2) → Dec (e.kind ≡ 3) → Dec (e.kind ≡ 4) → (ev : Event) × (named e next ≡ some ev)
        go (yes k) d2 d3 d4 = (_, names_create e next k)
        go (no n1) (yes k) d3 d4 = (_, names_exit e next k)
        go (no n1) (no n2) (yes k) d4 = (_, names_set e next k)
        go (no n1) (no n2) (no n3) (yes k) = (_, names_request e next k)
        go (no n1) (no n2) (no n3) (no n4) = let k : e.kind ≡ 5 = omega (arith, kind_known.0, kind_known.1) in (_, names_release e next k)

    pub counts_up : (answer_of t e).table.clock ≡ t.clock + 1
    unfolding accepted
    counts_up = ap (λ (d : Done). d.table.clock) (let_through t e none_applies named_one.1) ∙ adds_one t named_one.0

  pub stands : (answer_of t e).answer.number ≢ 0 → (answer_of t e).table ≡ t
  unfolding refused
  stands n = ap (λ (d : Done). d.table) (refused_is t e (λ z. n (number_is ∙ z)))
