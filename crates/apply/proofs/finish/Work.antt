-- From what an event leaves to the table that is stored and the answer's numbers. Assumes nothing.
use Prim.Native.Nat.{ℕ, ◌/◌, ◌<◌}
use mathlib.Core.Path.{◌≡◌, ap, ◌∙◌}
use mathlib.Core.Option.{Option}
use mathlib.Core.List.{List}
use Rattle.std.specs.declared.option.Option.{Option as Maybe}
use Rattle.table.specs.declared.Table.{Table}
use Rattle.table.specs.Table.{at}
use Rattle.table.specs.Code.Ready.{highest_ready}
use Rattle.table.proofs.Values.Values.{Good}
use Rattle.table.proofs.Values.Known.{known_good}
use Rattle.refusals.specs.declared.Record.{Record}
use Rattle.refusals.specs.declared.kinds.Kind.{Kind}
use Rattle.events.specs.Events.{changed}
use Rattle.events.specs.Code.Work.{with_current}
use Rattle.events.proofs.Kept.Stays.{changed_good}
use Rattle.release.specs.declared.heir.Next.{Next}
use Rattle.apply.specs.Accepted.{Accepted, Applied, Carried}
use Rattle.apply.specs.Stored.{StoredOf}
use Rattle.apply.proofs.finish.Stored.{numbers_low, stored_settled, runner_settled}

module _ {t : Table} {e : Record} {kind : Kind} {waits holders owns currents : List ℕ} {x : Maybe Next} {next : Option ℕ} (a : Accepted t e kind waits holders owns currents x)
    {after : Table} {holders' waits' currents' : List ℕ} {n : ℕ} (d : Applied t e next after holders' waits' currents' n) where
  good : Good (changed t d.event)
  good = changed_good t (known_good t a.known) a.clock_early d.permitted

  -- every priority in the numbers is a byte
  pub bytes : (th : ℕ) → th < 32 → at currents' th / 65536 < 256
  bytes = numbers_low (changed t d.event) good d.tracks

  -- with the numbers stored, and who runs by them, the event is carried out
  pub carried : (u : Table) (r : ℕ) → u ≡ with_current after u.current_priority u.current_time → StoredOf currents' u.current_priority u.current_time → r ≡ highest_ready waits' currents' 32 →
      Carried t e next u (record { running = r; count = n })
  carried u r rest stored runs = record {
    event = d.event;
    named_is = d.named_is;
    made = rest ∙ ap (λ (v : Table). with_current v u.current_priority u.current_time) d.made ∙ stored_settled (changed t d.event) good d.tracks u.current_priority u.current_time stored;
    running_is = runs ∙ runner_settled (changed t d.event) good d.tracks;
    count_is = d.counted;
  }
