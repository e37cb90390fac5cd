-- The lowest number of the tests is the lowest that applies. Assumes nothing.
use Prim.Native.Nat.{ℕ, ◌≤◌, ◌<◌}
use mathlib.Core.Path.{◌≡◌, refl, sym, ◌∙◌}
use mathlib.Core.Bool.{Bool, true, false, not}
use mathlib.Core.List.{◌++◌}
use mathlib.Core.Logic.{◌≢◌, ◌⊎◌, inl, inr, ⊎_elim}
use native.Mathlib.Decide.{dec_lt}
use native.Mathlib.Omega.{arith}
use lib.Dec.{eqb}
use Rattle.protocol.specs.Sets.{◌∈◌}
use Rattle.protocol.specs.Graph.{T, C, RAG, ◌⁺}
use Rattle.table.specs.declared.Table.{Table}
use Rattle.table.specs.Table.{live, queues, Holds, running}
use Rattle.table.specs.Sound.{Sound}
use Rattle.table.specs.Compute.{is_sound}
use Rattle.table.specs.Code.Shape.{Shape}
use Rattle.table.proofs.Tests.Reflect.{Tells, tells_eq, tells_both, tells_not}
use Rattle.table.proofs.Tests.Computed.{tells_live}
use Rattle.table.proofs.Tests.Decided.{tells_sound}
use Rattle.table.proofs.Sound.Read.{sound_good}
use Rattle.table.proofs.Values.Values.{Good}
use Rattle.refusals.specs.declared.Record.{Record}
use Rattle.refusals.specs.Refusals.{lowest, unsound, by_record, by_thread, by_queues, refusals}
use Rattle.refusals.specs.Applies.{IllFormed, Applies, not_sound, ill_formed, clock_ended, live_already, not_live, not_running, chained, not_held, holding, Given}
use Rattle.refusals.proofs.Tests.Tells.{tells_false, retell, tells_running, tells_leads, tells_holds, tells_holds_any}
use Rattle.refusals.proofs.Given.Lowest.{Tested, tested_both, LowestOf, lowest_cases}
use Rattle.refusals.proofs.Given.Parts.{given_record, past_4}
use Rattle.refusals.proofs.Given.Formed.{from_2_to_4, record_cases, well_formed, formed_thread}

module _ (t : Table) (e : Record) where
  is_kind : (k : ℕ) → Tells (eqb e.kind k) (e.kind ≡ k)
  is_kind = tells_eq e.kind

  is_other : Tells (not (eqb e.kind 1)) (e.kind ≢ 1)
  is_other = tells_not (is_kind 1)

  -- no number above 4 goes by the record alone
  above_4 : {A : Type 0} (n : ℕ) → 4 < n → IllFormed e n → A
  above_4 n h i = absurd (omega (arith, (from_2_to_4 e n i).1))

  -- what each number says

  says_5 : Applies t e 5 → t.clock ≡ 65535
  says_5 (ill_formed i) = above_4 5 (omega arith) i
  says_5 (clock_ended k) = k

  says_6 : Applies t e 6 → (e.kind ≡ 1) × (e.thread ∈ live t)
  says_6 (ill_formed i) = above_4 6 (omega arith) i
  says_6 (live_already k l) = (k, l)

  says_7 : Applies t e 7 → (e.kind ≢ 1) × ¬ (e.thread ∈ live t)
  says_7 (ill_formed i) = above_4 7 (omega arith) i
  says_7 (not_live k n) = (k, n)

  says_8 : Applies t e 8 → (e.kind ≢ 1) × ((e.thread ∈ live t) × ¬ (e.thread ∈ running t))
  says_8 (ill_formed i) = above_4 8 (omega arith) i
  says_8 (not_running k l n) = (k, (l, n))

  says_9 : Applies t e 9 → (e.kind ≡ 4) × (RAG (queues t) ⁺) (C e.argument) (T e.thread)
  says_9 (ill_formed i) = above_4 9 (omega arith) i
  says_9 (chained k w) = (k, w)

  says_10 : Applies t e 10 → (e.kind ≡ 5) × ¬ Holds t e.thread e.argument
  says_10 (ill_formed i) = above_4 10 (omega arith) i
  says_10 (not_held k n) = (k, n)

  says_11 : Applies t e 11 → (e.kind ≡ 2) × ((cs : ℕ) × Holds t e.thread cs)
  says_11 (ill_formed i) = above_4 11 (omega arith) i
  says_11 (holding cs k h) = (k, (cs, h))

  -- 1 tells of the table, 2 to 4 of the record, and the others are 5 to 11
  from_1_to_11 : (m : ℕ) → Applies t e m → ((m ≡ 1) × ¬ Sound t) ⊎ (IllFormed e m ⊎ ((4 < m) × (m ≤ 11)))
  from_1_to_11 m (not_sound n) = inl (refl, n)
  from_1_to_11 m (ill_formed i) = inr (inl i)
  from_1_to_11 m (clock_ended _) = inr (inr (omega arith, omega arith))
  from_1_to_11 m (live_already _ _) = inr (inr (omega arith, omega arith))
  from_1_to_11 m (not_live _ _) = inr (inr (omega arith, omega arith))
  from_1_to_11 m (not_running _ _ _) = inr (inr (omega arith, omega arith))
  from_1_to_11 m (chained _ _) = inr (inr (omega arith, omega arith))
  from_1_to_11 m (not_held _ _) = inr (inr (omega arith, omega arith))
  from_1_to_11 m (holding _ _ _) = inr (inr (omega arith, omega arith))

  bounds : (m : ℕ) → Applies t e m → (0 < m) × (m ≤ 11)
  bounds m a = ⊎_elim
      (λ w. (omega (arith, w.0), omega (arith, w.0)))
      (⊎_elim (λ i. let b = from_2_to_4 e m i in (omega (arith, b.0), omega (arith, b.1))) (λ w. (omega (arith, w.0), w.1)))
      (from_1_to_11 m a)

  -- the tests by the thread and by the queues, of a table in good order and a thread that there is
  module _ (good : Good t) (low : e.thread < 32) where
    thread_tests : Tested (Applies t e) (by_thread t e)
    unfolding by_thread
    thread_tests = (
      retell (tells_eq t.clock 65535) clock_ended says_5,
      (
        retell (tells_both (is_kind 1) (tells_live t e.thread)) (λ w. live_already w.0 w.1) says_6,
        (
          retell (tells_both is_other (tells_not (tells_live t e.thread))) (λ w. not_live w.0 w.1) says_7,
          (
            retell (tells_both is_other (tells_both (tells_live t e.thread) (tells_not (tells_running t good e.thread low)))) (λ w. not_running w.0 w.1.0 w.1.1) says_8,
            tt,
          ),
        ),
      ),
    )

    queue_tests : Tested (Applies t e) (by_queues t e)
    unfolding by_queues
    queue_tests = (
      retell (tells_both (is_kind 4) (tells_leads t good e.argument e.thread low)) (λ w. chained w.0 w.1) says_9,
      (
        retell (tells_both (is_kind 5) (tells_not (tells_holds t good e.thread e.argument low))) (λ w. not_held w.0 w.1) says_10,
        (
          retell (tells_both (is_kind 2) (tells_holds_any t good e.thread low)) (λ w. holding w.1.0 w.0 w.1.1) says_11,
          tt,
        ),
      ),
    )

    rest_cases : LowestOf (Applies t e) 4 7 (lowest (by_thread t e ++ by_queues t e))
    unfolding by_thread by_queues
    rest_cases = lowest_cases (Applies t e) (by_thread t e ++ by_queues t e) 4 (refl, (refl, (refl, (refl, (refl, (refl, (refl, tt)))))))
        (tested_both (Applies t e) (by_thread t e) (by_queues t e) thread_tests queue_tests)

  -- the number of the tests is the one that is given
  pub exactly : Shape t → Given t e (lowest (refusals t e))
  unfolding lowest unsound refusals
  exactly s = go (is_sound t) refl (record_cases e)
    where
      -- in a sound table the others are those by the record and those above 4
      others : Sound t → (m : ℕ) → ¬ IllFormed e m → (4 < m → ¬ Applies t e m) → ¬ Applies t e m
      others sound m formed above a = ⊎_elim {C = ⊥} (λ w. w.1 sound) (⊎_elim {C = ⊥} formed (λ w. above w.0 a)) (from_1_to_11 m a)

      go : (b : Bool) → is_sound t ≡ b → LowestOf (IllFormed e) 1 3 (lowest (by_record e)) → Given t e (lowest (refusals t e))
      go false u w = rw u (inr (not_sound (tells_false (tells_sound t s) u), λ m l a. absurd (omega (arith, (bounds m a).0))))
      go true u (inr w) = rw (given_record t e u (λ z. absurd (omega (arith, w.0))))
          (inr (ill_formed w.2, λ m l. others ((tells_sound t s).0 u) m (λ i. w.3 m (from_2_to_4 e m i).0 l i) (λ h. absurd (omega (arith, w.1)))))
      go true u (inl w) =
          let sound = (tells_sound t s).0 u in
          let formed = (well_formed e).0 w.0 in
          rw (past_4 t e u w.0) (⊎_elim
          (λ v. inl (v.0, λ m. others sound m (formed m) (λ h a. v.1 m h (omega (arith, (bounds m a).1)) a)))
          (λ v. inr (v.2, λ m l. others sound m (formed m) (λ h. v.3 m h l)))
          (rest_cases (sound_good t s sound) (formed_thread formed)))

-- where 0 is given, none applies
pub given_none : (t : Table) (e : Record) (n : ℕ) → Given t e n → n ≡ 0 → (m : ℕ) → ¬ Applies t e m
given_none t e n (inl w) z = w.1
given_none t e n (inr w) z = absurd (omega (arith, (bounds t e n w.0).0))

-- where 1 is given, the table isn't sound
pub given_1 : (t : Table) (e : Record) (n : ℕ) → Given t e n → n ≡ 1 → ¬ Sound t
given_1 t e n (inl w) z = absurd (omega (arith, w.0))
given_1 t e n (inr w) z = ⊎_elim (λ v. v.1) (⊎_elim (λ i. absurd (omega (arith, (from_2_to_4 e n i).0))) (λ v. absurd (omega (arith, v.0)))) (from_1_to_11 t e n w.0)

-- only one number is given
pub given_one : (t : Table) (e : Record) (n m : ℕ) → Given t e n → Given t e m → n ≡ m
given_one t e n m (inl a) (inl b) = a.0 ∙ sym b.0
given_one t e n m (inl a) (inr b) = absurd (a.1 m b.0)
given_one t e n m (inr a) (inl b) = absurd (b.1 n a.0)
given_one t e n m (inr a) (inr b) = go (dec_lt n m) (dec_lt m n)
  where
    go : Dec (n < m) → Dec (m < n) → n ≡ m
    go (yes l) d = absurd (b.1 n l a.0)
    go (no l) (yes g) = absurd (a.1 m g b.0)
    go (no l) (no g) = omega arith

-- so where none applies, 0 is given
pub given_passes : (t : Table) (e : Record) → Shape t → ((m : ℕ) → ¬ Applies t e m) → lowest (refusals t e) ≡ 0
given_passes t e s none = given_one t e (lowest (refusals t e)) 0 (exactly t e s) (inl (refl, none))
