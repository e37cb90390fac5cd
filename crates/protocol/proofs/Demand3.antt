-- Demand 3, both sentences over the paper's states and for any choice of the next holder: specs/Demand3.antt has the words that they use. Assumes nothing.
use Prim.Native.Nat.{ℕ, ◌+◌, ◌*◌, ◌≤◌, ◌<◌}
use mathlib.Core.Path.{◌≡◌, refl, sym, ap, subst, ◌∙◌}
use mathlib.Core.Bool.{Bool, cond, not}
use mathlib.Core.Option.{Option, none, some}
use mathlib.Core.List.{List, [], ◌∷◌, ◌++◌}
use mathlib.Core.Logic.Dec
use mathlib.Core.Logic.{◌≢◌, ◌⊎◌, inl, inr, ⊎_elim, ◌↔◌}
use native.Mathlib.Decide.{ℕ_discrete}
use native.Mathlib.Omega.{arith}
use lib.Dec.{eqb}
use borrow.Author.Tests.{eq-eqb, ne_eqb}
use Rattle.protocol.specs.Sets.{◌∈◌, images, set, Max, Number}
use Rattle.protocol.specs.Events.{Thread, Event, Create, Exit, Set, P, «V», State, threads, priority, Precedence, prec, ◌≼◌}
use Rattle.protocol.specs.Schedule.{wq, Cprec, running}
use Rattle.protocol.specs.Notions.{Detached}
use Rattle.protocol.specs.Rules.{Valid}
use Rattle.protocol.specs.Demand3.{Moment, now, before, HoldsOrWaits, Spares, calls_by, calls, calls_of_others, others, Until, none_yet, so_far, over}
use Rattle.protocol.proofs.Kept.{Kept, valid_kept, valid_before, last_step, caller, caller_runs}
use Rattle.protocol.proofs.Finite.{size, live_below, dec_attached, attached_in}
use Rattle.protocol.proofs.Spared.{Stands, capped, runs_at, idle_not_running, idle_stays, still_stands}
use Rattle.protocol.proofs.Theorems.{some_runs, has_cprec}
use Rattle.protocol.proofs.Order.{≼_total}
use Rattle.protocol.proofs.Numbers.{sum, sum_grows, sum_less, sum_bound, number_below}

-- The premises: the events s' happened after the moment s by the rules; at s the thread th is live and its own precedence is
-- the highest of all live threads; and each of the events spares it.
pub record Premises (s : State) (th : Thread) (s' : List Event) : Type 0 where
  pub by_rules : Valid (s' ++ s)
  pub live : th ∈ threads s
  pub highest : (u : Thread) → u ∈ threads s → prec u s ≼ prec th s
  pub spared : (e : Event) → e ∈ set s' → Spares th (priority th s) e

-- Demand 3, first sentence: any other thread that runs was live at that moment, has held or waited for a resource ever since,
-- and runs at exactly the first thread's precedence.
abbrev pub FirstSentence : Type 0
FirstSentence = (s : State) (th : Thread) (s' : List Event) → Premises s th s' →
    (th' : Thread) → th' ∈ running (s' ++ s) → th' ≢ th →
    (th' ∈ threads s) × ((m : State) → Moment s s' m → HoldsOrWaits m th') × Cprec (s' ++ s) th' (prec th s)

-- Demand 3, second sentence: if each of the n others holding or waiting at that moment makes at most K calls until it first
-- neither holds nor waits, that call included, or so far if that has not come, then all others together have made at most
-- n times K, Creates not counted.
abbrev pub SecondSentence : Type 0
SecondSentence = (s : State) (th : Thread) (s' : List Event) → Premises s th s' →
    (n K : ℕ) → Number (others s th) n →
    ((u : Thread) → u ∈ others s th → (es : List Event) → Until u s s' es → calls u es ≤ K) →
    calls_of_others th s' ≤ n * K

-- the premises for all but the newest event
earlier : {s : State} {th : ℕ} {e : Event} {s' : List Event} → Premises s th (e ∷ s') → Premises s th s'
earlier p = record { by_rules = valid_before p.by_rules; live = p.live; highest = p.highest; spared = λ e i. p.spared e (inr i) }

valid_from : (s : State) (s' : List Event) → Valid (s' ++ s) → Valid s
valid_from s [] v = v
valid_from s (e ∷ s') v = valid_from s s' (valid_before v)

-- the first moment is one of the moments
pub first : (s : State) (s' : List Event) → Moment s s' s
first s [] = now
first s (e ∷ s') = before (first s s')

-- th stands highest at every moment
stands : (s : State) (th : ℕ) (s' : List Event) → Premises s th s' → Stands th (prec th s) (s' ++ s)
stands s th [] p = record { live = p.live; own = refl; highest = p.highest }
stands s th (e ∷ s') p = still_stands (s' ++ s) (valid_kept (s' ++ s) (valid_before p.by_rules)) th (prec th s) (stands s th s' (earlier p)) e (last_step p.by_rules) (p.spared e (inl refl))

-- who once neither held nor waited does so now
idle_since : (s : State) (th : ℕ) {s' : List Event} {m : State} → Premises s th s' → Moment s s' m → (u : ℕ) → u ≢ th → ¬ HoldsOrWaits m u → ¬ HoldsOrWaits (s' ++ s) u
idle_since s th p now u ne idle = idle
idle_since s th p (before {e = e} {s' = s'} mo) u ne idle = idle_stays (s' ++ s) (valid_kept (s' ++ s) (valid_before p.by_rules)) th (prec th s) (stands s th s' (earlier p)) u ne (idle_since s th (earlier p) mo u ne idle) e (last_step p.by_rules)

-- Demand 3, first sentence
pub first_sentence : FirstSentence
first_sentence s th s' p th' run ne = (kept_s.entries in_queue.0 th' in_queue.1, ever, runs_at (s' ++ s) (valid_kept (s' ++ s) p.by_rules) th (prec th s) (stands s th s' p) th' run)
  where
    kept_s : Kept s
    kept_s = valid_kept s (valid_from s s' p.by_rules)

    ever : (m : State) → Moment s s' m → HoldsOrWaits m th'
    ever m mo = go (dec_attached m th')
      where
        go : Dec (HoldsOrWaits m th') → HoldsOrWaits m th'
        go (yes a) = a
        go (no n) = absurd (idle_not_running (s' ++ s) (valid_kept (s' ++ s) p.by_rules) th (prec th s) (stands s th s' p) th' ne (idle_since s th p mo th' ne n) run)

    in_queue : (r : ℕ) × (th' ∈ set (wq s r))
    in_queue = attached_in s th' (ever s (first s s'))

-- at every moment u held or waited, or there was one when it did neither
ever_or_not : (s : State) (s' : List Event) (u : ℕ) → ((m : State) → Moment s s' m → HoldsOrWaits m u) ⊎ ((m : State) × Moment s s' m × (¬ HoldsOrWaits m u))
ever_or_not s [] u = go (dec_attached s u)
  where
    all : HoldsOrWaits s u → (m : State) → Moment s [] m → HoldsOrWaits m u
    all a m now = a

    go : Dec (HoldsOrWaits s u) → ((m : State) → Moment s [] m → HoldsOrWaits m u) ⊎ ((m : State) × Moment s [] m × (¬ HoldsOrWaits m u))
    go (yes a) = inl (all a)
    go (no n) = inr (s, now, n)
ever_or_not s (e ∷ s') u = go (dec_attached (e ∷ s' ++ s) u) (ever_or_not s s' u)
  where
    all : HoldsOrWaits (e ∷ s' ++ s) u → ((m : State) → Moment s s' m → HoldsOrWaits m u) → (m : State) → Moment s (e ∷ s') m → HoldsOrWaits m u
    all a f m now = a
    all a f m (before mo) = f m mo

    go : Dec (HoldsOrWaits (e ∷ s' ++ s) u) → ((m : State) → Moment s s' m → HoldsOrWaits m u) ⊎ ((m : State) × Moment s s' m × (¬ HoldsOrWaits m u)) →
        ((m : State) → Moment s (e ∷ s') m → HoldsOrWaits m u) ⊎ ((m : State) × Moment s (e ∷ s') m × (¬ HoldsOrWaits m u))
    go d (inr w) = inr (w.0, before w.1, w.2)
    go (no n) (inl f) = inr (e ∷ s' ++ s, now, n)
    go (yes a) (inl f) = inl (all a f)

-- the events until u first neither holds nor waits: there is one such list
pub until_some : (s : State) (s' : List Event) (u : ℕ) → (es : List Event) × Until u s s' es
until_some s [] u = ([], none_yet)
until_some s (e ∷ s') u = ⊎_elim (λ f. (e ∷ s', so_far f)) (λ w. let r = until_some s s' u in (r.0, over w.1 w.2 r.1)) (ever_or_not s s' u)

pub until_one : {s : State} {u : ℕ} {s' es fs : List Event} → Until u s s' es → Until u s s' fs → es ≡ fs
until_one none_yet none_yet = refl
until_one (so_far f) (so_far g) = refl
until_one (so_far f) (over mo n k) = absurd (n (f _ mo))
until_one (over mo n k) (so_far f) = absurd (n (f _ mo))
until_one (over mo n k) (over mo' n' k') = until_one k k'

-- the others are a number
pub others_number : (s : State) (th : ℕ) → Valid s → (n : ℕ) × Number (others s th) n
others_number s th v = let c = number_below (others s th) (λ u. Dec.and (Dec.not (ℕ_discrete u th)) (dec_attached s u)) (size s) in
    (c.0, record { each = c.1.each; once = c.1.once; exactly = λ u. ((λ i. ((c.1.exactly u).0 i).1), λ o. (c.1.exactly u).1 (low u o.1, o)); size = c.1.size })
  where
    low : (u : ℕ) → HoldsOrWaits s u → u < size s
    low u a = let w = attached_in s u a in live_below s u ((valid_kept s v).entries w.0 u w.1)

-- 1 for a caller that passes the test, 0 for one that does not, and for nobody
abbrev tally : (Thread → Bool) → Option Thread → ℕ
tally test none = 0
tally test (some th) = cond (test th) 1 0

-- an event adds that to the calls
calls_more : (test : Thread → Bool) (e : Event) (es : List Event) → calls_by test (e ∷ es) ≡ tally test (caller e) + calls_by test es
calls_more test (Create th prio) es = omega arith
calls_more test (Exit th) es = refl
calls_more test (Set th prio) es = refl
calls_more test (P th cs) es = refl
calls_more test («V» th cs next) es = refl

module _ (s : State) (th : ℕ) where
  -- whoever else calls is one of the others, and has held or waited ever since
  other_calls : (e : Event) (s' : List Event) → Premises s th (e ∷ s') → (u : ℕ) → u ≢ th → caller e ≡ some u → (u ∈ others s th) × ((m : State) → Moment s s' m → HoldsOrWaits m u)
  other_calls e s' p u ne by = let w = first_sentence s th s' (earlier p) u (caller_runs (s' ++ s) e u by (last_step p.by_rules)) ne in ((ne, w.1 s (first s s')), w.1)

  -- all calls of another thread come before it first neither holds nor waits
  all_until : (u : ℕ) → u ≢ th → (s' : List Event) → Premises s th s' → (es : List Event) → Until u s s' es → calls u es ≡ calls u s'
  all_until u ne s' p es none_yet = refl
  all_until u ne s' p es (so_far f) = refl
  all_until u ne s' p es (over {e = e} {s' = s''} mo n k) = all_until u ne s'' (earlier p) es k ∙ go (caller e) refl ∙ sym (calls_more (λ x. eqb x u) e s'')
    where
      go : (o : Option ℕ) → caller e ≡ o → calls u s'' ≡ tally (λ x. eqb x u) o + calls u s''
      go none q = omega arith
      go (some x) q = at (ℕ_discrete x u)
        where
          at : Dec (x ≡ u) → calls u s'' ≡ cond (eqb x u) 1 0 + calls u s''
          at (yes d) = absurd (n ((other_calls e s'' p u ne (rw d at q)).1 _ mo))
          at (no d) = rw (ne_eqb x u d) (omega arith)

  -- each call of another thread counts for one of a list that has them all
  others_sum : (l : List ℕ) → ((u : ℕ) → u ∈ others s th → u ∈ set l) → (s' : List Event) → Premises s th s' → calls_of_others th s' ≤ sum l (λ u. calls u s')
  others_sum l has [] p = omega arith
  others_sum l has (e ∷ s') p = omega (
    arith,
    calls_more (λ u. not (eqb u th)) e s',
    go (caller e) refl (others_sum l has s' (earlier p)),
    sum_grows l (λ u. tally (λ x. eqb x u) (caller e) + calls u s') (λ u. calls u (e ∷ s')) (λ u. omega (arith, calls_more (λ x. eqb x u) e s')),
  )
    where
      go : (o : Option ℕ) → caller e ≡ o → calls_of_others th s' ≤ sum l (λ u. calls u s') → tally (λ u. not (eqb u th)) o + calls_of_others th s' ≤ sum l (λ u. tally (λ x. eqb x u) o + calls u s')
      go none q h = omega (arith, sum_grows l (λ u. calls u s') (λ u. 0 + calls u s') (λ u. omega arith))
      go (some x) q h = at (ℕ_discrete x th)
        where
          grows : (u : ℕ) → calls u s' ≤ cond (eqb x u) 1 0 + calls u s'
          grows u = omega arith

          at : Dec (x ≡ th) → cond (not (eqb x th)) 1 0 + calls_of_others th s' ≤ sum l (λ u. cond (eqb x u) 1 0 + calls u s')
          at (yes d) = rw (eq-eqb x th d) (omega (arith, sum_grows l (λ u. calls u s') (λ u. cond (eqb x u) 1 0 + calls u s') grows))
          at (no d) = rw (ne_eqb x th d) (omega (arith, sum_less l (λ u. calls u s') (λ u. cond (eqb x u) 1 0 + calls u s') grows x (has x (other_calls e s' p x d q).0) (rw (eq-eqb x x refl) (omega arith))))

-- Demand 3, second sentence
pub second_sentence : SecondSentence
second_sentence s th s' p n K count few = omega (arith, others_sum s th count.each (λ u o. (count.exactly u).1 o) s' p, sum_bound count.each (λ u. calls u s') K each, ap (λ (k : ℕ). k * K) count.size)
  where
    each : (u : ℕ) → u ∈ set count.each → calls u s' ≤ K
    each u i = let o = (count.exactly u).0 i in let w = until_some s s' u in
        omega (arith, few u o w.0 w.1, all_until s th u o.0 s' p w.0 w.1)

-- Lemma 2, in the paper's words: a detached thread other than th does not run
pub lemma_2 : (s : State) (th : ℕ) (s' : List Event) → Premises s th s' → (th' : ℕ) → th' ≢ th → Detached (s' ++ s) th' → ¬ (th' ∈ running (s' ++ s))
lemma_2 s th s' p th' ne out = idle_not_running (s' ++ s) (valid_kept (s' ++ s) p.by_rules) th (prec th s) (stands s th s' p) th' ne (⊎_elim out.0 out.1)

-- Lemma 3: some thread runs at every moment
pub lemma_3 : (s : State) (th : ℕ) (s' : List Event) → Premises s th s' → (th' : ℕ) × (th' ∈ running (s' ++ s))
lemma_3 s th s' p = some_runs (s' ++ s) p.by_rules th (stands s th s' p).live

-- The paper's premise in place of ours: th's own precedence is the highest of the live threads' own exactly when it is the
-- highest of their current ones.
pub highest_current : (s : State) → Valid s → (th : ℕ) → th ∈ threads s →
    ((u : ℕ) → u ∈ threads s → prec u s ≼ prec th s) ↔ Max ◌≼◌ (images (Cprec s) (threads s)) (prec th s)
highest_current s v th l = (to, λ k u i. let c = has_cprec s v u in ≼_total.transitive (prec u s) c.0 (prec th s) (c.1.bound (prec u s) (inl refl)) (k.bound c.0 (u, i, c.1)))
  where
    to : ((u : ℕ) → u ∈ threads s → prec u s ≼ prec th s) → Max ◌≼◌ (images (Cprec s) (threads s)) (prec th s)
    to top = record { among = (th, l, subst (λ (x : Precedence). Cprec s th x) (≼_total.antisymmetric c.0 (prec th s) (cap th l c.0 c.1) (c.1.bound (prec th s) (inl refl))) c.1); bound = λ a w. cap w.0 w.1 a w.2 }
      where
        c : (x : Precedence) × Cprec s th x
        c = has_cprec s v th

        cap : (u : ℕ) → u ∈ threads s → (x : Precedence) → Cprec s u x → x ≼ prec th s
        cap = capped s (valid_kept s v) th (prec th s) (record { live = l; own = refl; highest = top })
