-- `terminal::spare::turned_away` meets its contract. Assumes nothing.
use borrow.Author.Tests.{eq-eqb, ne_eqb}
use Rattle.terminal.proofs.Spared.{renumbered}
use Rattle.terminal.proofs.spare.turned_away.Goals as goal

-- the step finds the table sound
pub returns-then-no_such_kind : goal.returns-then-no_such_kind
returns-then-no_such_kind c = renumbered _ _ c.step_of-done.ensures _ (rw (eq-eqb c.step_of-done.result.answer.number 2 (cc)))

-- or not
pub returns-else-no_such_kind : goal.returns-else-no_such_kind
returns-else-no_such_kind c = renumbered _ _ c.step_of-done.ensures _ (rw (ne_eqb c.step_of-done.result.answer.number 2 (λ e. c.if-no_such_kind.false (cc))))
