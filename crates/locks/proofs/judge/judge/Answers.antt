-- `locks::judge::judge` meets its contract. Assumes nothing.
use mathlib.Core.Path.{◌≡◌, ◌∙◌}
use borrow.Author.Rules.{rules}
use Rattle.std.specs.Prelude.{Ok, Err, MatchResult}
use Rattle.refusals.specs.Numbers.{reason_number}
use Rattle.table.proofs.Values.Known.{known_good}
use Rattle.table.proofs.Values.Runs.{tracked_runner}
use Rattle.locks.proofs.Stepped.{judged}
use Rattle.locks.proofs.judge.judge.Goals as goal

pub returns-clause-judged : goal.returns-clause-judged
returns-clause-judged c known =
    let t = c.args.t.now in
    let runs = c.running-runs.ensures ∙ tracked_runner t (known_good t known) known.tracks in
    let answers : MatchResult c.refusal.result (λ kind. c.map_err.result ≡ Ok kind) (λ reason. c.map_err.result ≡ Err (record { number = reason_number reason; running = c.running-runs.result; count = 0 })) = search rules in
    judged t c.args.e known runs c.refusal.result c.map_err.result (c.refusal.ensures.number _ _ known runs) c.refusal.ensures.kind answers
