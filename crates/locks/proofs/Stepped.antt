-- The step, from the answer of the refusals to the table that it stores. Assumes nothing.
use Prim.Native.Nat.{ℕ, ◌<◌}
use mathlib.Core.Path.{◌≡◌, refl, sym, ap, ◌∙◌}
use mathlib.Core.Logic.{◌≢◌}
use mathlib.Core.List.{List}
use native.Mathlib.Omega.{arith}
use Rattle.std.specs.declared.option.Option.{Option as Maybe}
use Rattle.std.specs.Prelude.{Result, Ok, Err, MatchResult, IfOk}
use Rattle.table.specs.declared.Table.{Table}
use Rattle.table.specs.Table.{queues}
use Rattle.table.specs.Compute.{runner}
use Rattle.table.specs.Code.Tracks.{Known}
use Rattle.refusals.specs.declared.Record.{Record}
use Rattle.refusals.specs.declared.kinds.Kind.{Kind}
use Rattle.refusals.specs.declared.kinds.Kind.TheVariants as kinds
use Rattle.refusals.specs.declared.reasons.Reason.{Reason}
use Rattle.refusals.specs.Numbers.{kind_number, reason_number, refusal_number}
use Rattle.refusals.proofs.Given.Parts.{above_0}
use Rattle.refusals.specs.Refusals.{refusals, lowest}
use Rattle.events.specs.Events.{heir, named, event_of}
use Rattle.events.proofs.Accepted.Named.{named_same}
use Rattle.events.proofs.Heir.{heir_follows}
use Rattle.release.specs.declared.heir.Next.{Next}
use Rattle.release.specs.Heir.{NextRight, next_at}
use Rattle.apply.specs.declared.finish.Outcome.{Outcome}
use Rattle.apply.specs.Accepted.{Accepted, Carried}
use Rattle.locks.specs.declared.Answer.{Answer}
use Rattle.locks.specs.Answers.{accepted, answer_of}
use Rattle.locks.specs.Code.Judged.{Judged}
use Rattle.locks.proofs.Answered.{turned_down, let_through}

-- the answer of the refusals on a sound table, made into the step's
pub judged : (t : Table) (e : Record) {waits holders owns currents : List ℕ} {runs : ℕ} → Known t waits holders owns currents → runs ≡ runner t → (r : Result Kind Reason) (j : Result Kind Answer) →
    refusal_number r ≡ lowest (refusals t e) → IfOk r (λ kind. kind_number kind ≡ e.kind) →
    MatchResult r (λ kind. j ≡ Ok kind) (λ reason. j ≡ Err (record { number = reason_number reason; running = runs; count = 0 })) → Judged t e j
judged t e k runs_is (Ok kind) j number_is kind_is is = rw is (kind_is, sym number_is)
judged t e k runs_is (Err reason) j number_is kind_is is = rw is (sym (turned_down t e _ _ k.shape k.sound number_is (above_0 reason) runs_is))

-- who follows, if the kind is V, is the heir, and may be counted on
pub record HeirFollows (t : Table) (e : Record) (kind : Kind) (currents : List ℕ) (next : Maybe Next) : Type 0 where
  pub at_V : kind ≡ kinds.V → NextRight t.rows.queue t.rows.length currents e.argument next × (next_at t.rows.queue e.argument next ≡ heir t (queues t e.argument))

-- the kind is the record's, and no refusal meets that
module _ {t : Table} {e : Record} {kind : Kind} {currents : List ℕ} {next : Maybe Next} (is : (kind_number kind ≡ e.kind) × (lowest (refusals t e) ≡ 0)) (f : HeirFollows t e kind currents next) where
  -- then the event can be carried out
  pub ready : {waits holders owns : List ℕ} → Known t waits holders owns currents → e.thread < 32 → t.clock < 65535 → Accepted t e kind waits holders owns currents next
  ready k low early = record {
    known = k;
    unrefused = is.1;
    kind_is = is.0;
    thread_low = low;
    clock_early = early;
    next_right = λ v. (f.at_V v).0;
    follows = λ v. rw (f.at_V v).1 (heir_follows t (queues t e.argument) (k.sound.bare.queues_right.differ e.argument));
  }

  -- the event that the record names is that of the table
  same_event : named e (next_at t.rows.queue e.argument next) ≡ event_of t e
  unfolding event_of
  same_event = go kind is.0 f.at_V
    where
      other : e.kind ≢ 5 → named e (next_at t.rows.queue e.argument next) ≡ named e (heir t (queues t e.argument))
      other = named_same e (next_at t.rows.queue e.argument next) (heir t (queues t e.argument))

      go : (k : Kind) → kind_number k ≡ e.kind → (k ≡ kinds.V → NextRight t.rows.queue t.rows.length currents e.argument next × (next_at t.rows.queue e.argument next ≡ heir t (queues t e.argument))) →
          named e (next_at t.rows.queue e.argument next) ≡ named e (heir t (queues t e.argument))
      go kinds.Create q h = other (omega arith)
      go kinds.Exit q h = other (omega arith)
      go kinds.Set q h = other (omega arith)
      go kinds.P q h = other (omega arith)
      go kinds.V q h = ap (named e) (h refl).1

  -- so what is left once it is carried out, with its answer, is the step's result
  pub stepped : {after : Table} {o : Outcome} → Carried t e (next_at t.rows.queue e.argument next) after o → record { table = after; answer = record { number = 0; running = o.running; count = o.count } } ≡ answer_of t e
  unfolding accepted
  stepped c = rw (c.made, c.running_is, c.count_is) (sym (let_through t e is.1 (sym same_event ∙ c.named_is)))
