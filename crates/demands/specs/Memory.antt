-- Any table and any record: what memory can hold. proofs/Types shows that this is just what the types of the calls hold. Assumes nothing.
use Rattle.std.specs.Prelude.{ℕ, ◌≤◌, ◌≡◌, List, length}
use Rattle.table.specs.declared.Table.{Table}
use Rattle.table.specs.Table.{at}
use Rattle.refusals.specs.declared.Record.{Record}

-- an array of n numbers, none above the highest that its type can hold
pub record Array (n highest : ℕ) (xs : List ℕ) : Type 0 where
  pub size : length xs ≡ n
  pub in_range : (i : ℕ) → at xs i ≤ highest

-- any table: whatever 882 bytes of memory can hold, sound or not
pub record AnyTable (t : Table) : Type 0 where
  pub clock : t.clock ≤ 65535
  pub live : Array 32 255 t.live
  pub priority : Array 32 255 t.priority
  pub time : Array 32 65535 t.time
  pub current_priority : Array 32 255 t.current_priority
  pub current_time : Array 32 65535 t.current_time
  pub queue : Array 512 255 t.rows.queue
  pub length : Array 16 255 t.rows.length
  pub requests : Array 32 65535 t.requests
  pub releases : Array 32 65535 t.releases

-- any record: four bytes
pub record AnyRecord (e : Record) : Type 0 where
  pub kind : e.kind ≤ 255
  pub thread : e.thread ≤ 255
  pub argument : e.argument ≤ 255
  pub zero : e.zero ≤ 255
