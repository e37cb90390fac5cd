-- `streams::write_all` meets its contract: a call that takes bytes goes on, one that fails takes none. Assumes nothing.
use Rattle.std.proofs.Common.{rules}
use Rattle.std.proofs.KnownBytes.{Appends-kept}
use Rattle.streams.proofs.Pieces.{next_piece}
use Rattle.streams.proofs.write_all.Goals.{in-Ok-eq0, in-Ok, in-Err}
use Rattle.streams.proofs.write_all.Goals as goal

pub loop-preserved : goal.loop-preserved
loop-preserved g c =
    let l = c.loop in
    let holds = g.W.Write.contents in
    elim c.match-write.branch [
      | in-Ok-eq0 w ↦ search (rules, Appends-kept)
      | in-Ok w ↦
          let taken = w.in-Ok.ensures in
          rw w.written-is
          (next_piece (holds c.args.output.now) (holds l.output) (holds c.write.new.self) l.written c.args.bytes.now l.invariant.0 taken.bound l.invariant.1 taken.bytes)
      | in-Err w ↦ search (rules, Appends-kept)
    ]
