-- What is read back of a log: specs/Replay has the statement. Assumes nothing.
use Prim.Native.Nat.{ℕ, ◌*◌, ◌≤◌}
use mathlib.Core.Path.{◌≡◌, refl, sym, ap, ◌∙◌}
use mathlib.Core.Logic.{by_cases}
use mathlib.Core.List.{List, [], ◌∷◌, ◌++◌, append-nil, append_assoc}
use native.Mathlib.Decide.{ℕ_discrete}
use native.Mathlib.Omega.{arith}
use lib.ListN.{length, take}
use lib.Seq.{take_at}
use Rattle.table.specs.declared.Table.{Table}
use Rattle.table.specs.Table.{empty}
use Rattle.event_log.specs.Bytes.{Four, Fours}
use Rattle.event_log.specs.Card.{blocks_for, log_of}
use Rattle.event_log.proofs.Rows.{four}
use Rattle.event_log.proofs.Places.{length_log, bytes_log}
use Rattle.locks.specs.declared.Answer.{Answer}
use Rattle.locks.specs.Answers.{answer_of}
use Rattle.locks.proofs.Clock.{stands}
use Rattle.locktable.specs.Four.{four_of}
use Rattle.replay.specs.declared.Replayed.{Replayed}
use Rattle.replay.specs.Read.{event_in, Gives}
use Rattle.replay.specs.Leads.{Leads, none, one_more}
use Rattle.replay.proofs.Applying.{leads_then, reads_lead}
use Rattle.replay.proofs.Answers.{gives_one}
use Rattle.replay.proofs.Written.{log_read}
use Rattle.replay.proofs.Records.{reads_fours}
use Rattle.demands.specs.Memory.{AnyTable, AnyRecord}
use Rattle.demands.specs.Calls.{Calls}
use Rattle.demands.specs.Stated.{AsStated}
use Rattle.demands.specs.Runs.{Call, event, ask, running, thread, resource, AnyCalls, table_after, number_of}
use Rattle.demands.specs.Demand2.{Demand2}
use Rattle.demands.specs.Kept.{AnyLog, LogCall, LogStated, records, log_after}
use Rattle.demands.specs.Replay.{ReplayCall, ReplayStated, stepped, ReadTold, ReadBack}
use Rattle.demands.proofs.Demand2.{demand_2}
use Rattle.demands.proofs.Kept.{more_records, same_records, fours, every_event_kept}

-- a record's four bytes are any record
pub any_event : (r : List ℕ) → Four r → AnyRecord (event_in r)
any_event r f = record { kind = omega (arith, f.bytes 0); thread = omega (arith, f.bytes 1); argument = omega (arith, f.bytes 2); zero = omega (arith, f.bytes 3) }

-- and the record that they say has these bytes
same_four : (r : List ℕ) → Four r → four_of (event_in r) ≡ r
same_four r f = sym (four r f.size)

module _ (c : Calls) (is : AsStated c) (t : Table) (held : AnyTable t) where
  d₂ : Demand2 c
  d₂ = demand_2 c is

  memory : (ks : List Call) → AnyCalls ks → AnyTable (table_after c t ks)
  memory ks any = (d₂ t held ks any).1.memory

  -- The records that were accepted lead from the empty table to the kernel's.
  leads : (ks : List Call) → AnyCalls ks → Leads empty (records c t ks) (table_after c t ks)
  leads [] any = rw (is.empty t held) none
  leads (event e ∷ ks) any =
      let now = table_after c t ks in
      let says = is.step now e (memory ks any.1) any.0 in
      let number : number_of c t ks e ≡ (answer_of now e).answer.number = ap (λ (a : Answer). a.number) says.0 in
      by_cases (ℕ_discrete (number_of c t ks e) 0)
      (λ z. rw (more_records c t ks e z, says.1) (leads_then (leads ks any.1) (one_more (sym number ∙ z) none)))
      (λ n. rw (same_records c t ks e n, says.1, stands now e (λ z. n (number ∙ z))) (leads ks any.1))
  leads (ask running ∷ ks) any = rw (is.running (table_after c t ks) (memory ks any.1)).1 (leads ks any.1)
  leads (ask (thread th) ∷ ks) any = rw (is.thread (table_after c t ks) th (memory ks any.1) any.0).1 (leads ks any.1)
  leads (ask (resource cs) ∷ ks) any = rw (is.resource (table_after c t ks) cs (memory ks any.1) any.0).1 (leads ks any.1)

  -- The other way round: records that lead on from the kernel's table are accepted when it steps them, and it has the table that they lead to.
  pub record Stepped (ks : List Call) (rs : List (List ℕ)) (u : Table) : Type 0 where
    pub any : AnyCalls (stepped ks rs)
    pub all : records c t (stepped ks rs) ≡ records c t ks ++ rs
    pub to : table_after c t (stepped ks rs) ≡ u

  steps_on : (ks : List Call) (rs : List (List ℕ)) {now u : Table} → AnyCalls ks → Fours rs → table_after c t ks ≡ now → Leads now rs u → Stepped ks rs u
  steps_on ks [] any f e none = record { any = any; all = sym (append-nil (records c t ks)); to = e }
  steps_on ks (r ∷ rs) {now} any f e (one_more z p) =
      let ev = event_in r in
      let says = is.step (table_after c t ks) ev (memory ks any) (any_event r f.0) in
      let accepted : number_of c t ks ev ≡ 0 = ap (λ (a : Answer). a.number) says.0 ∙ (ap (λ (x : Table). (answer_of x ev).answer.number) e ∙ z) in
      let rest = steps_on (event ev ∷ ks) rs (any_event r f.0, any) f.1 (says.1 ∙ ap (λ (x : Table). (answer_of x ev).table) e) p in
      let before : records c t (event ev ∷ ks) ≡ records c t ks ++ (r ∷ []) = more_records c t ks ev accepted ∙ ap (λ (x : List ℕ). records c t ks ++ (x ∷ [])) (same_four r f.0) in
      record { any = rest.any; all = rest.all ∙ (ap (λ (xs : List (List ℕ)). xs ++ rs) before ∙ append_assoc (records c t ks) (r ∷ []) rs); to = rest.to }

  -- so demand 2 holds of what is read of any log
  pub read_told : (log : List ℕ) (r : Replayed) → AnyLog log → Gives log r → ReadTold c t log r
  read_told log r holds g =
      let s = steps_on [] g.done tt (reads_fours holds.bytes g.reads) (is.empty t held) (reads_lead g.reads) in
      let w = d₂ t held (stepped [] g.done) s.any in
      record { done = g.done; reads = g.reads; counted = g.counted; accepted = s.all; table_is = s.to; state = w.0; after = w.1 }

-- What the writer wrote is read back.
module _ (c : Calls) (k : LogCall) (p : ReplayCall) (is : AsStated c) (writes : LogStated k) (reads : ReplayStated p) where
  written : (t : Table) (fresh : List ℕ) (ks : List Call) → AnyTable t → AnyLog fresh → AnyCalls ks → 512 * blocks_for (length (records c t ks)) ≤ length fresh
      → p (take (512 * blocks_for (length (records c t ks))) (log_after c k t fresh ks)) ≡ record { table = table_after c t ks; records = length (records c t ks); number = 0 }
  written t fresh ks held holds any room =
      let rs = records c t ks in
      let f = fours c t ks any in
      let size = length_log rs f in
      let front : take (512 * blocks_for (length rs)) (log_after c k t fresh ks) ≡ log_of rs = rw ((every_event_kept c k (demand_2 c is) writes).kept t fresh ks held holds any room) (take_at (log_of rs) _ _ size) in
      let lent : AnyLog (log_of rs) = record { bytes = bytes_log rs f; fits = omega (arith, size, room, holds.fits) } in
      let here : Gives (log_of rs) (record { table = table_after c t ks; records = length rs; number = 0 }) = record { done = rs; reads = log_read f (leads c is t held ks any); counted = refl } in
      rw front (gives_one (reads (log_of rs) lent) here)

  pub read_back : ReadBack c k p
  read_back = record { written = λ t fresh ks held holds any room. written t fresh ks held holds any (omega (arith, room)); told = λ t log held holds. read_told c is t held log (p log) holds (reads log holds) }
