-- The event that a record names, by its kind. Assumes nothing.
use Prim.Native.Nat.{ℕ}
use mathlib.Core.Path.{◌≡◌}
use mathlib.Core.Option.{Option, some}
use mathlib.Core.Logic.{◌≢◌}
use borrow.Author.Tests.{ne_eqb}
use Rattle.protocol.specs.Events.{Create, Exit, Set, P, «V»}
use Rattle.refusals.specs.declared.Record.{Record}
use Rattle.events.specs.Events.{named}

module _ (e : Record) (next : Option ℕ) where
  pub names_create : e.kind ≡ 1 → named e next ≡ some (Create e.thread e.argument)
  unfolding named
  names_create k = rw k

  pub names_exit : e.kind ≡ 2 → named e next ≡ some (Exit e.thread)
  unfolding named
  names_exit k = rw k

  pub names_set : e.kind ≡ 3 → named e next ≡ some (Set e.thread e.argument)
  unfolding named
  names_set k = rw k

  pub names_request : e.kind ≡ 4 → named e next ≡ some (P e.thread e.argument)
  unfolding named
  names_request k = rw k

  pub names_release : e.kind ≡ 5 → named e next ≡ some («V» e.thread e.argument next)
  unfolding named
  names_release k = rw k

-- who follows matters at a V alone
pub named_same : (e : Record) (next other : Option ℕ) → e.kind ≢ 5 → named e next ≡ named e other
unfolding named
named_same e next other n = rw (ne_eqb e.kind 5 n)
