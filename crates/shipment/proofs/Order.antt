-- Before any later event each fixed task's precedence is above that of all after it: specs/Order has the statement. Assumes nothing.
use native.Mathlib.Omega.{arith}
use Rattle.terminal.proofs.Order.{above_as}
use Rattle.demands.specs.Calls.{Calls}
use Rattle.demands.specs.Stated.{AsStated}
use Rattle.shipment.specs.Calls.{Terminal, AsTold}
use Rattle.shipment.specs.Order.{OrderKept}
use Rattle.shipment.proofs.Tasks.{fixed_live, in_order}
use Rattle.shipment.proofs.Ships.{shows_since}

-- functions that do what the contracts say keep it, since the table shows the state
pub order_kept : (c : Calls) → AsStated c → (k : Terminal) → AsTold k → OrderKept c k
order_kept c is k told = record {
  state = in_order;
  own = λ t acts held any past i j h l. let shown = (shows_since c is k told t held acts any past).own_is in
      above_as (shown i (fixed_live i (omega arith))) (shown j (fixed_live j l)) (in_order.own i j h l);
  current = λ t acts held any past i j h l. let shown = (shows_since c is k told t held acts any past).current_is in
      in_order.current i j h l _ _ (shown i (fixed_live i (omega arith))) (shown j (fixed_live j l));
}
