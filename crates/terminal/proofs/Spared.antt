-- The answers to a spare task, by its id. Assumes nothing.
use mathlib.Core.Path.{◌≡◌, refl, ◌∙◌}
use mathlib.Core.Bool.{Bool, true, false, cond}
use Prim.Native.Nat.{ℕ}
use lib.Dec.{eqb}
use Rattle.std.specs.Prelude.{Option}
use Rattle.protocol.specs.Events.{Thread, Priority}
use Rattle.table.specs.declared.Table.{Table}
use Rattle.table.specs.Compute.{is_sound}
use Rattle.refusals.specs.declared.Record.{Record}
use Rattle.refusals.specs.Refusals.{unsound, by_record, refusals, lowest}
use Rattle.events.specs.Events.{event_of}
use Rattle.locks.specs.declared.Done.{Done}
use Rattle.locks.specs.Answers.{refused, carried_out, answer_of}
use Rattle.terminal.specs.Tasks.{is_spare}
use Rattle.terminal.specs.Spare.{addition, spare_refusals, spare_answer}

-- one and the same test twice
twice : (b : Bool) (d r : Done) → cond b (cond b d r) r ≡ cond b d r
twice true d r = refl
twice false d r = refl

-- a record of no kind
abbrev no_kind : Record
no_kind = record { kind = 0; thread = 0; argument = 0; zero = 0 }

module _ (t : Table) where
  -- is refused with 2, but for a table that isn't sound
  no_kind_is : answer_of t no_kind ≡ refused t (cond (is_sound t) 2 1)
  unfolding answer_of refusals unsound by_record lowest
  no_kind_is = go (is_sound t) refl
    where
      go : (b : Bool) → is_sound t ≡ b → answer_of t no_kind ≡ refused t (cond (is_sound t) 2 1)
      go true e = rw e refl
      go false e = rw e refl

  -- and with 17 in the place of that 2 it is the refusal of an id that is no spare task's
  pub renumbered : (d : Done) → d ≡ answer_of t no_kind → (n : ℕ) → n ≡ cond (eqb d.answer.number 2) 17 d.answer.number →
      record { table = d.table; answer = record { number = n; running = d.answer.running; count = d.answer.count } } ≡ refused t (cond (is_sound t) 17 1)
  unfolding refused
  renumbered d q n m = go (is_sound t) refl
    where
      go : (b : Bool) → is_sound t ≡ b → record { table = d.table; answer = record { number = n; running = d.answer.running; count = d.answer.count } } ≡ refused t (cond (is_sound t) 17 1)
      go true e = rw (m, q ∙ no_kind_is, e) refl
      go false e = rw (m, q ∙ no_kind_is, e) refl

  module _ (id : Thread) (w : Option Priority) where
    -- with a spare task's id 17 does not apply, so the first refusal is the Create's
    same_number : is_spare id ≡ true → lowest (spare_refusals t id w) ≡ lowest (refusals t (addition id w))
    unfolding spare_refusals lowest refusals
    same_number s = rw s refl

    -- and the answer is the step's to the Create
    pub as_create : is_spare id ≡ true → spare_answer t id w ≡ answer_of t (addition id w)
    unfolding spare_answer answer_of
    as_create s = rw (same_number s) (twice (eqb (lowest (refusals t (addition id w))) 0) (carried_out t (event_of t (addition id w))) (refused t (lowest (refusals t (addition id w)))))

    -- with another id it is 17, but for a table that isn't sound
    pub as_turned_away : is_spare id ≡ false → spare_answer t id w ≡ refused t (cond (is_sound t) 17 1)
    unfolding spare_answer spare_refusals unsound lowest
    as_turned_away s = go (is_sound t) refl
      where
        go : (b : Bool) → is_sound t ≡ b → spare_answer t id w ≡ refused t (cond (is_sound t) 17 1)
        go true e = rw (s, e) refl
        go false e = rw e refl
