-- The local law in numbers and in precedences: the same. Assumes nothing.
use Prim.Native.Nat.{ℕ, ◌≤◌, ◌<◌}
use mathlib.Core.Path.{◌≡◌, refl, sym, ap, ◌∙◌}
use mathlib.Core.List.{List}
use mathlib.Core.Logic.{inl, inr, ⊎_elim, ◌↔◌}
use native.Mathlib.Omega.{arith}
use Rattle.protocol.specs.Sets.{SetOf, ◌∈◌, only, ◌∪◌, image, Max}
use Rattle.protocol.specs.Events.{Precedence, ◌≼◌}
use Rattle.protocol.specs.Rank.{rank}
use Rattle.protocol.specs.Children.{children, LocalLaw}
use Rattle.protocol.proofs.Highest.{max_map}
use Rattle.protocol.proofs.Current.{child_live, parent_live}
use Rattle.table.specs.declared.Table.{Table}
use Rattle.table.specs.Table.{at, live, own, stored, queues}
use Rattle.table.specs.Compute.{holder}
use Rattle.table.specs.Code.Places.{slot_number}
use Rattle.table.specs.Code.Tracks.{own_number}
use Rattle.table.proofs.Sound.Order.{time_fits}
use Rattle.table.proofs.Values.Numbers.{≤_total, max_rank, slot_live, slot_dead, owned}
use Rattle.table.proofs.Values.Values.{Good, thread_low, hops}
use Rattle.chains.specs.Law.{Compared}
use Rattle.chains.proofs.law.Children.{compared_law, law_compared}

-- the numbers of the own and of the stored current precedences, 0 for slots that aren't live; and the stored times fit
pub record Numbered (t : Table) (owns currents : List ℕ) : Type 0 where
  pub owns_are : (th : ℕ) → th < 32 → at owns th ≡ own_number t th
  pub currents_are : (th : ℕ) → th < 32 → at currents th ≡ slot_number (at t.live th) (at t.current_priority th) (at t.current_time th)
  pub current_times_fit : (th : ℕ) → at t.current_time th ≤ 65535

-- the current number of th is the highest that the law compares
abbrev pub LawfulAt : Table → List ℕ → List ℕ → List ℕ → ℕ → Type 0
LawfulAt t holders owns currents th = Max ◌≤◌ (Compared t.rows.queue t.rows.length holders currents 16 (at owns th) th) (at currents th)

-- what the law compares at th, in precedences
abbrev Among : Table → ℕ → SetOf Precedence
Among t th = only (own t th) ∪ image (stored t) (children (queues t) th)

module _ (t : Table) (g : Good t) (holders : List ℕ) (right : (cs : ℕ) → cs < 16 → at holders cs ≡ holder t cs) {owns currents : List ℕ} (numbered : Numbered t owns currents) where
  own_is : (th : ℕ) → th ∈ live t → at owns th ≡ rank 65535 (own t th)
  own_is = owned t g.shape owns numbered.owns_are

  stored_is : (th : ℕ) → th ∈ live t → at currents th ≡ rank 65535 (stored t th)
  stored_is th l = numbered.currents_are th (thread_low t g th l) ∙ slot_live (at t.live th) (at t.current_priority th) (at t.current_time th) l

  -- the local law at a live thread, in numbers
  pub law_numbers : (th : ℕ) → th ∈ live t → LocalLaw (queues t) (own t) (stored t) th (stored t th) ↔ LawfulAt t holders owns currents th
  law_numbers th l = (
    λ k. law_compared t g holders right currents (at owns th) th (thread_low t g th l) (at currents th) (rw (stored_is th l) (max_map ◌≤◌ ≤_total to from (ranked.0 k))),
    λ k. ranked.1 (max_map ◌≤◌ ≤_total from to (rw (stored_is th l) at (compared_law t g holders right currents (at owns th) th (thread_low t g th l) (at currents th) k))),
  )
    where
      low : (p : Precedence) → p ∈ Among t th → p.1 ≤ 65535
      low p = ⊎_elim (λ e. rw e (time_fits g.bare th)) (λ w. rw w.2 (numbered.current_times_fit w.0))

      ranked : Max ◌≼◌ (Among t th) (stored t th) ↔ Max ◌≤◌ (image (rank 65535) (Among t th)) (rank 65535 (stored t th))
      ranked = max_rank 65535 (Among t th) low (stored t th) (numbered.current_times_fit th)

      to : (a : ℕ) → a ∈ image (rank 65535) (Among t th) → a ∈ (only (at owns th) ∪ image (at currents) (hops t g th))
      to a (p, inl e, f) = inl (f ∙ ap (rank 65535) e ∙ sym (own_is th l))
      to a (p, inr (u, k, e), f) = inr (u, k, f ∙ ap (rank 65535) e ∙ sym (stored_is u (child_live g.order u th k)))

      from : (a : ℕ) → a ∈ (only (at owns th) ∪ image (at currents) (hops t g th)) → a ∈ image (rank 65535) (Among t th)
      from a (inl e) = (own t th, inl refl, e ∙ own_is th l)
      from a (inr (u, k, e)) = (stored t u, inr (u, k, refl), e ∙ stored_is u (child_live g.order u th k))

  -- nobody waits for a dead thread, so its zero is right
  pub dead_law : (th : ℕ) → th < 32 → ¬ (th ∈ live t) → LawfulAt t holders owns currents th
  dead_law th h n = law_compared t g holders right currents (at owns th) th h (at currents th) (record {
    among = inl (zero_current ∙ sym zero_own);
    bound = λ a. ⊎_elim (λ e. omega (arith, zero_own, zero_current)) (λ w. absurd (n (parent_live g.order w.0 th w.1)));
  })
    where
      zero_own : at owns th ≡ 0
      zero_own = numbered.owns_are th h ∙ slot_dead (at t.live th) (at t.priority th) (at t.time th) n

      zero_current : at currents th ≡ 0
      zero_current = numbered.currents_are th h ∙ slot_dead (at t.live th) (at t.current_priority th) (at t.current_time th) n
