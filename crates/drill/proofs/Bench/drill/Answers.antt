-- `drill::Bench::drill` meets its contract: behind the lines so far stands the line that the next byte completes. Assumes nothing.
use Rattle.std.proofs.Common.{sym, ap, ◌∙◌, append-nil, arith}
use Rattle.drill.specs.Bytes.{bytes_of}
use Rattle.drill.proofs.Parts.{none_yet, turn}
use Rattle.drill.proofs.Bench.drill.Goals.{in-Some, in_default}
use Rattle.drill.proofs.Bench.drill.Goals as goal

pub loop-used-init : goal.loop-used-init
loop-used-init c = (omega arith, none_yet _ _ _)

pub loop-used-preserved : goal.loop-used-preserved
loop-used-preserved c =
    let l = c.loop-used in
    elim c.match-feed.branch [
      | in-Some w ↦
          let fed = w.in-Some.ensures in
          let line = w.as_bytes-bytes.ensures in
          rw (w.len-is, w.out-is) (omega (arith, line.fits, w.put.auto.out), turn l.invariant.1 (omega arith) fed.0 (sym (line.value ∙ ap bytes_of fed.1)) w.put.ensures)
      | in_default w ↦
          let fed = w.in_default.ensures in
          rw (w.len-is, w.out-is) (l.invariant.0, turn l.invariant.1 (omega arith) fed.0 (sym (ap bytes_of fed.1)) (sym (append-nil _)))
    ]
