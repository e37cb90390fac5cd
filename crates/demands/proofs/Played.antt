-- Calls from the empty table on, worked out from the definitions: the numbers that their records get, and the history that these make. Assumes nothing.
use Prim.Native.Nat.{ℕ, suc}
use mathlib.Core.Path.{◌≡◌, refl, sym, ap, subst, ◌∙◌}
use mathlib.Core.Bool.{Bool, true, ◌&&◌}
use mathlib.Core.Logic.{◌≢◌, ◌⊎◌, inl, inr}
use mathlib.Core.Option.{none, some}
use mathlib.Core.List.{List, [], ◌∷◌}
use native.Mathlib.Omega.{arith}
use lib.Dec.{leb}
use Rattle.protocol.specs.Events.{Thread, Resource, Event, «V», State}
use Rattle.protocol.specs.Schedule.{wq}
use Rattle.protocol.specs.Rules.{Valid}
use Rattle.protocol.proofs.Theorems.{some_heir}
use Rattle.table.specs.declared.Table.{Table}
use Rattle.table.specs.Table.{empty}
use Rattle.table.proofs.Tests.Reflect.{Tells, tells_le, tells_both}
use Rattle.refusals.specs.declared.Record.{Record}
use Rattle.refusals.proofs.Tests.Tells.{retell}
use Rattle.locks.specs.declared.Done.{Done}
use Rattle.locks.specs.Answers.{answer_of}
use Rattle.demands.specs.Runs.{Query, running, thread, resource, Call, event, ask, AnyCall, AnyCalls, table_after, Chosen, Writes, release, History, none_yet, accepted, refused, asked}
use Rattle.demands.proofs.InMemory.{right_any}
use Rattle.demands.proofs.Reached.{start_reached}
use Rattle.demands.proofs.Demand2.{after}
use Rattle.demands.proofs.TheCalls.{the_calls, demand_2_met}

-- the table after the calls and the numbers of their records, the newest first; what is an argument is worked out once
unfoldable pub noted : Done → List ℕ → Table × List ℕ
noted d ns = (d.table, d.answer.number ∷ ns)

unfoldable pub onward : Table × List ℕ → Record → Table × List ℕ
onward r e = noted (answer_of r.0 e) r.1

unfoldable pub play : List Call → Table × List ℕ
play [] = (empty, [])
play (event e ∷ ks) = onward (play ks) e
play (ask q ∷ ks) = play ks

-- the table is the kernel's
pub table_is : (ks : List Call) → table_after the_calls empty ks ≡ (play ks).0
unfolding noted onward play
table_is [] = refl
table_is (event e ∷ ks) = ap (λ (t : Table). (answer_of t e).table) (table_is ks)
table_is (ask running ∷ ks) = table_is ks
table_is (ask (thread th) ∷ ks) = table_is ks
table_is (ask (resource cs) ∷ ks) = table_is ks

-- calls, the numbers of their records, and the events of those that got 0; at a V where just one waits, that one follows
pub data Tale : List Call → List ℕ → State → Type 0 where
  start : Tale [] [] []
  accept : {ks : List Call} {ns : List ℕ} {m : State} {e : Record} {ev : Event} → Writes m e ev → Tale ks ns m → Tale (event e ∷ ks) (0 ∷ ns) (ev ∷ m)
  hand_over : {ks : List Call} {ns : List ℕ} {m : State} {e : Record} (a b : Thread) → e.kind ≡ 5 → wq m e.argument ≡ a ∷ b ∷ [] → b ≢ a → AnyCalls ks → Tale ks ns m →
      Tale (event e ∷ ks) (0 ∷ ns) («V» e.thread e.argument (some b) ∷ m)
  refuse : {ks : List Call} {ns : List ℕ} {m : State} {e : Record} (n : ℕ) → Tale ks ns m → Tale (event e ∷ ks) (suc n ∷ ns) m
  query : {ks : List Call} {ns : List ℕ} {m : State} {q : Query} → Tale ks ns m → Tale (ask q ∷ ks) ns m

-- the first of a list, and the rest
abbrev head : List ℕ → ℕ
head [] = 0
head (x ∷ xs) = x

abbrev tail : List ℕ → List ℕ
tail [] = []
tail (x ∷ xs) = xs

-- where two stand in a queue, the second follows; where one does, nobody
second : (m : State) → Valid m → (cs : Resource) (a b : Thread) → wq m cs ≡ a ∷ b ∷ [] → b ≢ a → Chosen m cs (some b)
second m v cs a b q ne = let h = some_heir m v cs b (rw q (inr (inl refl), ne)) in subst (λ (x : Thread). Chosen m cs (some x)) (go h.0 (rw q at h.1.among)) h.1
  where
    go : (u : Thread) → ((u ≡ a) ⊎ ((u ≡ b) ⊎ ⊥)) × ¬ (u ≡ a) → u ≡ b
    go u (inl e, n) = absurd (n e)
    go u (inr (inl e), n) = e
    go u (inr (inr x), n) = absurd x

pub nobody : (m : State) (cs : Resource) (a : Thread) → wq m cs ≡ a ∷ [] → Chosen m cs none
nobody m cs a q u w = go u (rw q at w)
  where
    go : (u : Thread) → ¬ (((u ≡ a) ⊎ ⊥) × ¬ (u ≡ a))
    go u (inl e, n) = n e
    go u (inr x, n) = x

-- where the numbers are the ones worked out, the events are those of the calls
pub history : {ks : List Call} {ns : List ℕ} {m : State} → Tale ks ns m → (play ks).1 ≡ ns → History the_calls empty ks m
unfolding noted onward play
history start q = none_yet
history (accept {ks = ks} {e = e} w tale) q = accepted (history tale (ap tail q)) (ap (λ (t : Table). (answer_of t e).answer.number) (table_is ks) ∙ ap head q) w
history (hand_over {ks = ks} {m = m} {e = e} a b k two ne any tale) q =
    let h = history tale (ap tail q) in
    let v = (after demand_2_met (right_any empty start_reached.right) any h).by_rules in
    accepted h (ap (λ (t : Table). (answer_of t e).answer.number) (table_is ks) ∙ ap head q) (release k (second m v e.argument a b two ne))
history (refuse {ks = ks} {e = e} n tale) q = refused {e = e} (history tale (ap tail q)) (λ z. absurd (omega (arith, sym (ap head q) ∙ sym (ap (λ (t : Table). (answer_of t e).answer.number) (table_is ks)) ∙ z)))
history (query tale) q = asked (history tale q)

-- whether all that is passed is bytes
unfoldable pub in_bytes : Call → Bool
in_bytes (event e) = leb e.kind 255 && (leb e.thread 255 && (leb e.argument 255 && leb e.zero 255))
in_bytes (ask running) = true
in_bytes (ask (thread th)) = leb th 255
in_bytes (ask (resource cs)) = leb cs 255

unfoldable pub all_in_bytes : List Call → Bool
all_in_bytes [] = true
all_in_bytes (k ∷ ks) = in_bytes k && all_in_bytes ks

tells_bytes : (k : Call) → Tells (in_bytes k) (AnyCall k)
unfolding in_bytes
tells_bytes (event e) = retell (tells_both (tells_le e.kind 255) (tells_both (tells_le e.thread 255) (tells_both (tells_le e.argument 255) (tells_le e.zero 255))))
    (λ w. record { kind = w.0; thread = w.1.0; argument = w.1.1.0; zero = w.1.1.1 })
    (λ a. (a.kind, (a.thread, (a.argument, a.zero))))
tells_bytes (ask running) = ((λ _. tt), λ _. refl)
tells_bytes (ask (thread th)) = tells_le th 255
tells_bytes (ask (resource cs)) = tells_le cs 255

pub tells_all_bytes : (ks : List Call) → Tells (all_in_bytes ks) (AnyCalls ks)
unfolding all_in_bytes
tells_all_bytes [] = ((λ _. tt), λ _. refl)
tells_all_bytes (k ∷ ks) = tells_both (tells_bytes k) (tells_all_bytes ks)
