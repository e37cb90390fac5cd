-- The functions that the contracts name do what the contracts say, so `AsTold` can be met; of these all holds with no premise at all. No two results do for one input. Assumes nothing.
use Rattle.std.specs.Prelude.{Option, Some, None}
use Prim.Native.Nat.{ℕ, ◌≤◌}
use mathlib.Core.Path.{◌≡◌, refl, sym, ap, ◌∙◌}
use Rattle.protocol.specs.Events.{Priority}
use Rattle.table.specs.declared.Table.{Table}
use Rattle.locks.specs.declared.Answer.{Answer}
use Rattle.terminal.specs.Start.{started}
use Rattle.terminal.specs.Spare.{spare_answer}
use Rattle.demands.specs.Memory.{AnyTable}
use Rattle.demands.specs.Calls.{Left}
use Rattle.demands.proofs.Numbers.{left_is}
use Rattle.demands.proofs.Demand1.{left_of}
use Rattle.demands.proofs.TheCalls.{the_calls, as_stated}
use Rattle.shipment.specs.Calls.{Terminal, adds, AnyWanted, StartSays, SpareSays, AsTold}
use Rattle.shipment.specs.Fixed.{Demand1Since}
use Rattle.shipment.specs.Ships.{Demand2Since}
use Rattle.shipment.specs.Order.{OrderKept}
use Rattle.shipment.specs.Draw.{DrawFirst}
use Rattle.shipment.proofs.Fixed.{demand_1_since}
use Rattle.shipment.proofs.Ships.{demand_2_since}
use Rattle.shipment.proofs.Order.{order_kept}
use Rattle.shipment.proofs.Draw.{draw_first}

abbrev pub the_terminal : Terminal
the_terminal = record { start = λ t. left_of started; spare = λ t id. left_of (spare_answer t id None); spare_at = λ t id priority. left_of (spare_answer t id (Some priority)) }

pub as_told : AsTold the_terminal
as_told = record { start = λ t a. (refl, refl); spare = says }
  where
    says : (t : Table) (id : ℕ) (w : Option Priority) → AnyTable t → id ≤ 255 → AnyWanted w → SpareSays t id w (adds the_terminal t id w)
    says t id None a h p = (refl, refl)
    says t id (Some priority) a h p = (refl, refl)

-- and so does whatever leaves the same, for the tables and bytes that there are: no more is asked
pub whatever_agrees : (k : Terminal) → ((t : Table) → AnyTable t → k.start t ≡ the_terminal.start t) → ((t : Table) (id : ℕ) (w : Option Priority) → AnyTable t → id ≤ 255 → AnyWanted w → adds k t id w ≡ left_of (spare_answer t id w)) → AsTold k
whatever_agrees k starts spares = record {
  start = λ t a. let q = starts t a in (ap (λ (l : Left Answer). l.answer) q, ap (λ (l : Left Answer). l.table) q);
  spare = λ t id w a h p. let q = spares t id w a h p in (ap (λ (l : Left Answer). l.answer) q, ap (λ (l : Left Answer). l.table) q);
}

-- one result for each input
pub start_one : (a b : Left Answer) → StartSays a → StartSays b → a ≡ b
start_one a b p q = left_is a p ∙ sym (left_is b q)

pub spare_one : (t : Table) (id : ℕ) (w : Option Priority) (a b : Left Answer) → SpareSays t id w a → SpareSays t id w b → a ≡ b
spare_one t id w a b p q = left_is a p ∙ sym (left_is b q)

-- what is proved of any functions that do what the contracts say holds of these
pub demand_1_holds : Demand1Since the_terminal
demand_1_holds = demand_1_since the_terminal as_told

pub demand_2_holds : Demand2Since the_calls the_terminal
demand_2_holds = demand_2_since the_calls as_stated the_terminal as_told

pub order_holds : OrderKept the_calls the_terminal
order_holds = order_kept the_calls as_stated the_terminal as_told

pub draw_holds : DrawFirst the_calls the_terminal
draw_holds = draw_first the_calls as_stated the_terminal as_told
