-- The values that the demands speak of are the ones that the calls' own types hold, no more and no fewer: `Is` is what a type says of a value and its bytes. Assumes nothing.
use Prim.Native.Nat.{ℕ, zero, suc, ◌^◌, ◌≤◌, ◌<◌}
use mathlib.Core.Path.{◌≡◌, refl}
use mathlib.Core.Logic.{◌↔◌}
use mathlib.Core.List.{List, [], ◌∷◌, map}
use native.Mathlib.Omega.{arith}
use mir.Syntax.{Width, w8, w16, w32, named}
use mir.Val.{Val, vint, bits}
use base.Fml.{Lft}
use denote.Shadow.{shadow}
use denote.Plain.{UInt}
use denote.Array as value
use denote.Array.{each}
use denote.Laws.{Is}
use denote.Ref.{Bor, MutBor, MutRef, ShrRef}
use denote.Slice.{MutSlice, ShrSlice, shr_slice_vals, mut_slice_vals}
use denote.Signature.{types_at}
use denote.Struct.Laws.{vals, owes, owed}
use Rattle.table.specs.declared.Table.{Table}
use Rattle.table.specs.Table.{at}
use Rattle.table.proofs.Sound.Typed.{typed_size}
use Rattle.table.specs.contracts.Table as table
use Rattle.table.specs.contracts.Rows as rows
use Rattle.table.proofs.Table.TheLaws as TableLaws
use Rattle.table.proofs.Rows.TheLaws as RowsLaws
use Rattle.refusals.specs.declared.Record.{Record}
use Rattle.refusals.specs.contracts.Record as four_bytes
use Rattle.refusals.proofs.Record.TheLaws as FourBytesLaws
use Rattle.locktable.specs.contracts.locktable_empty as empty
use Rattle.locktable.specs.contracts.locktable_step as step
use Rattle.locktable.specs.contracts.locktable_running as running
use Rattle.locktable.specs.contracts.locktable_thread as thread
use Rattle.locktable.specs.contracts.locktable_resource as resource
use Rattle.locktable.specs.contracts.locktable_log as log
use Rattle.locktable.specs.contracts.locktable_replay as replay
use Rattle.event_log.specs.Bytes.{Bytes}
use Rattle.demands.specs.Memory.{Array, AnyTable, AnyRecord}
use Rattle.demands.specs.Kept.{AnyLog}

-- An array of numbers of one width, of which `highest` is the highest.
module _ (w : Width) (highest : ℕ) (fits : (x : ℕ) → (x < 2 ^ bits w) ↔ (x ≤ highest)) where
  -- its elements are in range
  in_range : (xs : List ℕ) (us : List Val) → shadow (each ℕ (UInt w).own_val xs us) → (i : ℕ) → at xs i ≤ highest
  in_range [] us p i = omega arith
  in_range (x ∷ xs) [] p i = absurd p
  in_range (x ∷ xs) (u ∷ us) p zero = (fits x).0 p.0.1
  in_range (x ∷ xs) (u ∷ us) p (suc i) = in_range xs us p.1 i

  -- elements in range have their values in memory
  in_memory : (xs : List ℕ) → ((i : ℕ) → at xs i ≤ highest) → shadow (each ℕ (UInt w).own_val xs (map (vint w) xs))
  in_memory [] h = tt
  in_memory (x ∷ xs) h = ((refl, (fits x).1 (h 0)), in_memory xs (λ i. h (suc i)))

  -- what its type says is `Array`
  array : (n : ℕ) (xs : List ℕ) → Is (value.Array (UInt w) n) xs (value.array_val (map (vint w) xs) ∷ []) ↔ Array n highest xs
  array n xs = (
    λ p. record { size = typed_size w n xs p; in_range = in_range xs p.0 p.1.1 },
    λ a. (map (vint w) xs, ((refl, a.size), in_memory xs a.in_range)),
  )

-- a number of one byte, as a thread or a resource that is asked for, and one of two
pub byte : (x : ℕ) → (x < 2 ^ bits w8) ↔ (x ≤ 255)
byte x = ((λ h. omega arith), (λ h. omega arith))

word : (x : ℕ) → (x < 2 ^ bits w16) ↔ (x ≤ 65535)
word x = ((λ h. omega arith), (λ h. omega arith))

-- a table that the type holds is any table, and the other way round
pub table_is : (t : Table) → Is table.the_row t (vals table.the_type TableLaws.the_laws t) ↔ AnyTable t
table_is t = let bytes = array w8 255 byte in let words = array w16 65535 word in (
  λ p. let o = owed table.the_type TableLaws.the_laws t _ p in let r = owed rows.the_type RowsLaws.the_laws t.rows _ o.1.1.1.1.1.1.0 in record {
    clock = (word t.clock).0 o.0.1;
    live = (bytes 32 t.live).0 o.1.0;
    priority = (bytes 32 t.priority).0 o.1.1.0;
    time = (words 32 t.time).0 o.1.1.1.0;
    current_priority = (bytes 32 t.current_priority).0 o.1.1.1.1.0;
    current_time = (words 32 t.current_time).0 o.1.1.1.1.1.0;
    queue = (bytes 512 t.rows.queue).0 r.0;
    length = (bytes 16 t.rows.length).0 r.1.0;
    requests = (words 32 t.requests).0 o.1.1.1.1.1.1.1.0;
    releases = (words 32 t.releases).0 o.1.1.1.1.1.1.1.1.0;
  },
  λ a. owes table.the_type TableLaws.the_laws t ((refl, (word t.clock).1 a.clock), ((bytes 32 t.live).1 a.live, ((bytes 32 t.priority).1 a.priority, ((words 32 t.time).1 a.time, ((bytes 32 t.current_priority).1 a.current_priority, ((words 32 t.current_time).1 a.current_time, (owes rows.the_type RowsLaws.the_laws t.rows ((bytes 512 t.rows.queue).1 a.queue, ((bytes 16 t.rows.length).1 a.length, tt)), ((words 32 t.requests).1 a.requests, ((words 32 t.releases).1 a.releases, tt))))))))),
)

-- and so for records
pub record_is : (e : Record) → Is four_bytes.the_row e (vals four_bytes.the_type FourBytesLaws.the_laws e) ↔ AnyRecord e
record_is e = (
  λ p. let o = owed four_bytes.the_type FourBytesLaws.the_laws e _ p in record {
    kind = (byte e.kind).0 o.0.1;
    thread = (byte e.thread).0 o.1.0.1;
    argument = (byte e.argument).0 o.1.1.0.1;
    zero = (byte e.zero).0 o.1.1.1.0.1;
  },
  λ a. owes four_bytes.the_type FourBytesLaws.the_laws e ((refl, (byte e.kind).1 a.kind), ((refl, (byte e.thread).1 a.thread), ((refl, (byte e.argument).1 a.argument), ((refl, (byte e.zero).1 a.zero), tt)))),
)

-- The types of what the five calls are given: a borrow of a table, κ long, and besides a record or a byte.
pub empty_takes : (κ : Lft) → types_at (empty.signature).params (κ, tt) ≡ MutRef (named 0) κ table.the_row ∷ []
empty_takes κ = refl

pub step_takes : (κ : Lft) → types_at (step.signature).params (κ, tt) ≡ MutRef (named 0) κ table.the_row ∷ (four_bytes.the_row ∷ [])
step_takes κ = refl

pub running_takes : (κ : Lft) → types_at (running.signature).params (κ, tt) ≡ ShrRef (named 0) κ table.the_row ∷ []
running_takes κ = refl

pub thread_takes : (κ : Lft) → types_at (thread.signature).params (κ, tt) ≡ ShrRef (named 0) κ table.the_row ∷ (UInt w8 ∷ [])
thread_takes κ = refl

pub resource_takes : (κ : Lft) → types_at (resource.signature).params (κ, tt) ≡ ShrRef (named 0) κ table.the_row ∷ (UInt w8 ∷ [])
resource_takes κ = refl

-- The log's call is given a borrow of bytes, a number of 32 bits and a record.
pub log_takes : (κ : Lft) → types_at (log.signature).params (κ, tt) ≡ MutSlice (named 0) κ (UInt w8) ∷ (UInt w32 ∷ (four_bytes.the_row ∷ []))
log_takes κ = refl

-- Of bytes, each of them a `UInt w8`, the type of the log holds those that are any log: it says of their number that it is below 2 ^ 63.
pub log_is : (κ : Lft) (l : MutBor (List ℕ)) → Bytes l.now → Is (MutSlice (named 0) κ (UInt w8)) l (mut_slice_vals l) ↔ AnyLog l.now
log_is κ l bytes = ((λ p. record { bytes = bytes; fits = omega (arith, p.0.1.1) }), λ a. let fits = a.fits in ((refl, (omega arith, omega arith)), (tt, tt)))

-- The call that reads a log back is given a borrow of bytes, as `&`, and its type holds the same.
pub replay_takes : (κ : Lft) → types_at (replay.signature).params (κ, tt) ≡ ShrSlice (named 0) κ (UInt w8) ∷ []
replay_takes κ = refl

pub read_log_is : (κ : Lft) (l : Bor (List ℕ)) → Bytes l.now → Is (ShrSlice (named 0) κ (UInt w8)) l (shr_slice_vals l) ↔ AnyLog l.now
read_log_is κ l bytes = ((λ p. record { bytes = bytes; fits = omega (arith, p.0.1.1) }), λ a. let fits = a.fits in ((refl, (omega arith, omega arith)), tt))
