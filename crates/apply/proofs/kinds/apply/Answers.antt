-- `apply::kinds::apply` meets its contract: by the kind, each event's own function does it. Assumes nothing.
use Prim.Native.Nat.{◌≤◌}
use mathlib.Core.Path.{refl}
use native.Mathlib.Omega.{arith}
use Rattle.apply.proofs.kinds.Ready.{create_begun, exit_begun, set_begun, request_begun, release_begun}
use Rattle.apply.proofs.kinds.Arms.{create_applied, exit_applied, set_applied, request_applied, release_applied}
use Rattle.apply.proofs.kinds.apply.Goals.{in-Create, in-Exit, in-Set, in-P, in-V}
use Rattle.apply.proofs.kinds.apply.Goals as goal

pub request-requires : goal.request-requires
request-requires c = (c.args.t.now, c.args.w.now.own, request_begun c.requires c.in-P.is)

pub release-requires : goal.release-requires
release-requires c = (c.requires.next_right c.in-V.is, (c.args.t.now, release_begun c.requires c.in-V.is))

pub returns : goal.returns
returns c =
    let t = c.args.t.now in
    let a = c.requires in
    let small : c.args.e.argument ≤ 255 = omega arith in
    let wrote = c.set_slot.ensures in
    elim c.match-kind.branch [
      | in-Create w ↦ create_applied a wrote w.t-is w.w-is w.count-is small w.in-Create.is w.fresh.ensures (w.create.ensures t _ _ _ _ _ (create_begun a small w.in-Create.is) refl)
      | in-Exit w ↦ exit_applied a wrote w.t-is w.w-is w.count-is w.in-Exit.is w.dead.ensures (w.exit.ensures t _ _ _ _ _ (exit_begun a w.in-Exit.is))
      | in-Set w ↦ set_applied a wrote w.t-is w.w-is w.count-is small w.in-Set.is (rw c.slot-slot.ensures at w.anew.ensures) (w.set_anew.ensures t _ (set_begun a small w.in-Set.is) refl)
      | in-P w ↦ request_applied a wrote w.t-is w.w-is w.count-is w.in-P.is (rw c.slot-slot.ensures at w.requested.ensures) (w.request.ensures.done t _ (request_begun a w.in-P.is))
      | in-V w ↦ release_applied a wrote w.t-is w.w-is w.count-is w.in-V.is (rw c.slot-slot.ensures at w.released.ensures) (w.release.ensures.done t (release_begun a w.in-V.is))
    ]
