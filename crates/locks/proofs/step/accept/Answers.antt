-- `locks::step::accept` meets its contract. Assumes nothing.
use mathlib.Core.Path.{◌≡◌, refl, sym, ap, ◌∙◌}
use Rattle.table.specs.Code.Tracks.{Known}
use Rattle.soundness.proofs.Found.{found_unsound}
use Rattle.refusals.specs.Numbers.{kind_number}
use Rattle.refusals.specs.Refusals.{refusals, lowest}
use Rattle.locks.proofs.Answered.{not_sound}
use Rattle.locks.proofs.Stepped.{HeirFollows, ready, stepped}
use Rattle.locks.proofs.step.accept.Goals.{Joined-kind, in-V, in_default}
use Rattle.locks.proofs.step.accept.Goals as goal

-- what is known of a table that passes
found : (c : Joined-kind) → Known c.args.t.now c.passes.new.w.graph.waits c.passes.new.w.graph.holders c.passes.new.w.own c.passes.new.w.current
found c = c.passes.ensures.passed c.untested-w.ensures.own c.untested-w.ensures.current c.if-not-passes.false

-- the kind is the record's, and no refusal meets that
named : (c : Joined-kind) → (kind_number c.in_ok-kind.kind ≡ c.args.e.kind) × (lowest (refusals c.args.t.now c.args.e) ≡ 0)
named c = c.in_ok-kind.ensures.judged (found c)

-- at a V the heir follows
follows : (c : Joined-kind) → HeirFollows c.args.t.now c.args.e c.in_ok-kind.kind c.passes.new.w.current c.match-kind.next
follows c =
    elim c.match-kind.branch [
      | in-V w ↦ record { at_V = λ v. rw w.next-is (w.follower-next.ensures c.args.t.now _ _ _ c.args.e (found c) (named c).1 refl refl (sym (named c).0 ∙ ap kind_number v) refl) }
      | in_default w ↦ record { at_V = λ v. absurd (w.in_default.not-V v) }
    ]

pub carry_out-requires : goal.carry_out-requires
carry_out-requires c =
    let j = (goal.at.carry_out-requires c).Joined-kind in
    ready (named j) (follows j) (found j) c.in_ok-kind.ensures.thread c.in_ok-kind.ensures.clock

pub returns : goal.returns
returns c shape =
    let j = (goal.at.returns c).Joined-kind in
    stepped (named j) (follows j) c.carry_out.ensures

pub returns-then-not-passes : goal.returns-then-not-passes
returns-then-not-passes c shape =
    rw c.refused.ensures (sym (not_sound c.args.t.now c.args.e (found_unsound c.args.t.now shape (c.passes.ensures.failed c.untested-w.ensures.own c.untested-w.ensures.current c.if-not-passes.true))))
