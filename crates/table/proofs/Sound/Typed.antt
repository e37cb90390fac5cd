-- A table that its type holds has arrays of their sizes: what a function knows of a table by value. Assumes nothing.
use Prim.Native.Nat.{ℕ}
use mathlib.Core.Path.{◌≡◌}
use mathlib.Core.List.{List}
use lib.ListN.{length}
use mir.Syntax.{Width, w8, w16}
use mir.Val.{Val}
use denote.Plain.{UInt}
use denote.Array as value
use denote.Laws.{Is}
use denote.Struct.Laws.{owed}
use Rattle.table.specs.declared.Table.{Table}
use Rattle.table.specs.Code.Shape.{Shape}
use Rattle.table.specs.contracts.Table as table
use Rattle.table.specs.contracts.Rows as rows
use Rattle.table.proofs.Table.TheLaws as TableLaws
use Rattle.table.proofs.Rows.TheLaws as RowsLaws

-- one array of numbers
pub typed_size : (w : Width) (n : ℕ) (xs : List ℕ) {vs : List Val} → Is (value.Array (UInt w) n) xs vs → length xs ≡ n
typed_size w n xs p = p.1.0.1

-- all of a table's
pub typed_shape : (t : Table) {vs : List Val} → Is table.the_row t vs → Shape t
typed_shape t p = let o = owed table.the_type TableLaws.the_laws t _ p in let r = owed rows.the_type RowsLaws.the_laws t.rows _ o.1.1.1.1.1.1.0 in record {
  live_size = typed_size w8 32 t.live o.1.0;
  priority_size = typed_size w8 32 t.priority o.1.1.0;
  time_size = typed_size w16 32 t.time o.1.1.1.0;
  current_priority_size = typed_size w8 32 t.current_priority o.1.1.1.1.0;
  current_time_size = typed_size w16 32 t.current_time o.1.1.1.1.1.0;
  queue_size = typed_size w8 512 t.rows.queue r.0;
  length_size = typed_size w8 16 t.rows.length r.1.0;
  requests_size = typed_size w16 32 t.requests o.1.1.1.1.1.1.1.0;
  releases_size = typed_size w16 32 t.releases o.1.1.1.1.1.1.1.1.0;
}
