-- The answer before any event is done. Assumes nothing.
use Rattle.std.specs.Prelude.{◌≡◌, Result, MatchResult}
use Rattle.table.specs.declared.Table.{Table}
use Rattle.refusals.specs.declared.Record.{Record}
use Rattle.refusals.specs.declared.kinds.Kind.{Kind}
use Rattle.refusals.specs.Numbers.{kind_number}
use Rattle.refusals.specs.Refusals.{lowest, refusals}
use Rattle.locks.specs.declared.Answer.{Answer}
use Rattle.locks.specs.Answers.{answer_of}

-- A record that no refusal meets is of the kind given; to any other the answer is given, and the table stays.
abbrev pub Judged : Table → Record → Result Kind Answer → Type 0
Judged t e judged = MatchResult judged (λ kind. (kind_number kind ≡ e.kind) × (lowest (refusals t e) ≡ 0)) (λ answer. record { table = t; answer = answer } ≡ answer_of t e)
