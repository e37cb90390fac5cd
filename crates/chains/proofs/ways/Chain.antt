-- Where the walk of specs/Ways.antt comes to an end: exactly where the way does, whatever is marked as seen; and whom it marks. Assumes nothing.
use Prim.Native.Nat.{ℕ, zero, suc, ◌+◌, ◌-◌, ◌≤◌, ◌<◌}
use mathlib.Core.Path.{◌≡◌, refl, sym, ap, subst, ◌∙◌}
use mathlib.Core.Logic.{◌≢◌, ◌⊎◌, inl, inr, ⊎_elim}
use mathlib.Core.Bool.{Bool, true, false}
use mathlib.Core.List.{List}
use native.Mathlib.Omega.{arith}
use native.Mathlib.Decide.{ℕ_discrete, dec_le}
use Rattle.protocol.proofs.Pigeons.{pigeons_by}
use Rattle.table.specs.Table.{at}
use Rattle.chains.specs.Marks.{marked, mark}
use Rattle.chains.specs.Ways.{thread_way, resource_way, Ending, here, goes_on, EndsFrom}
use Rattle.chains.proofs.marks.Bits.{mark_some, all_marked}
use Rattle.chains.proofs.ways.Next.{ends_low}
use Rattle.chains.proofs.ways.Steps.{thread_none, thread_past, thread_seen, thread_free, thread_on, resource_none, resource_on}

module _ (waits holders : List ℕ) where
  -- no two ways from a thread have different lengths
  pub ending_unique : {t k l : ℕ} → Ending waits holders t k → Ending waits holders t l → k ≡ l
  ending_unique (here h w) (here g v) = refl
  ending_unique (here h w) (goes_on g v e) = absurd (omega arith)
  ending_unique (goes_on h w e) (here g v) = absurd (omega arith)
  ending_unique (goes_on h w e) (goes_on g v f) = ap suc (ending_unique e f)

  -- each length up to that of t's way is that of some thread's
  heights : {t k : ℕ} → Ending waits holders t k → (i : ℕ) → i < suc k → (a : ℕ) × Ending waits holders a i × (a < 32)
  heights (here {t = t} h w) i l = let e : i ≡ 0 = omega arith in (t, subst (Ending waits holders t) (sym e) (here h w), h)
  heights (goes_on {t = t} {k = k} h w e) i l = go (ℕ_discrete i (suc k)) (heights e i)
    where
      go : Dec (i ≡ suc k) → (i < suc k → (a : ℕ) × Ending waits holders a i × (a < 32)) → (a : ℕ) × Ending waits holders a i × (a < 32)
      go (yes q) on = (t, subst (Ending waits holders t) (sym q) (goes_on h w e), h)
      go (no q) on = on (omega arith)

  -- so a way passes less than 32 holders
  short : {t k : ℕ} → Ending waits holders t k → k < 32
  short {k = k} e = pigeons_by 32 (suc k) (λ i a. Ending waits holders a i) (heights e) (λ i j a. ending_unique)

  module _ (seen : ℕ) where
    -- a way past k holders passes k + 1 threads and k resources
    enough : {t k : ℕ} → Ending waits holders t k → (n way : ℕ) → k + k < n → thread_way n waits holders seen way t ≢ 0
    enough (here {t = t} h w) n way l e = go (marked seen t) refl
      where
        go : (b : Bool) → marked seen t ≡ b → ⊥
        go true s = mark_some way t h (sym (thread_seen waits holders seen way n (n - 1) (omega arith) t h s) ∙ e)
        go false s = mark_some way t h (sym (thread_free waits holders seen way n (n - 1) (omega arith) t h s w) ∙ e)
    enough (goes_on {t = t} {k = k} h w e) n way l q = go (marked seen t) refl (enough e (n - 2) (mark way t) (omega arith))
      where
        go : (b : Bool) → marked seen t ≡ b → thread_way (n - 2) waits holders seen (mark way t) (at holders (at waits t)) ≢ 0 → ⊥
        go true s on = mark_some way t h (sym (thread_seen waits holders seen way n (n - 1) (omega arith) t h s) ∙ q)
        go false s on =
            on
            (sym (resource_on waits holders seen (mark way t) (n - 1) (n - 2) (omega arith) (at waits t) w)
            ∙ sym (thread_on waits holders seen way n (n - 1) (omega arith) t h s w)
            ∙ q)

    -- the walk finds the end of every way that ends
    pub ends_found : (way t : ℕ) → EndsFrom waits holders t → thread_way 64 waits holders seen way t ≢ 0
    ends_found way t (_, e) = enough e 64 way (omega (arith, short e))

    -- where the ways from all that are seen end, it finds no other, and marks none besides those that are
    module _ (ended : (u : ℕ) → marked seen u ≡ true → EndsFrom waits holders u) where
      -- the way from t ends, and so does that from all that are marked after it and were not before
      abbrev Found : ℕ → ℕ → ℕ → Type 0
      Found way t after = EndsFrom waits holders t × ((u : ℕ) → marked after u ≡ true → (marked way u ≡ true) ⊎ EndsFrom waits holders u)

      one_more : (way t : ℕ) → EndsFrom waits holders t → (u : ℕ) → marked (mark way t) u ≡ true → (marked way u ≡ true) ⊎ EndsFrom waits holders u
      one_more way t ends = all_marked {Q = λ u. (marked way u ≡ true) ⊎ EndsFrom waits holders u} way t (ends_low waits holders ends) (λ u m. inl m) (inr ends)

      -- a way that ends at t
      stops : (way t after : ℕ) → after ≡ mark way t → EndsFrom waits holders t → Found way t after
      stops way t after e ends = (ends, rw e (one_more way t ends))

      -- one that goes on from t, and so ends where that does
      goes : (way t next after : ℕ) → (EndsFrom waits holders next → EndsFrom waits holders t) → Found (mark way t) next after → Found way t after
      goes way t next after back (ends, marks) = (back ends, λ u m. ⊎_elim (one_more way t (back ends) u) inr (marks u m))

      mutual
        pub found : (n way t : ℕ) → thread_way n waits holders seen way t ≢ 0 → Found way t (thread_way n waits holders seen way t)
        found zero way t some = absurd (some (thread_none _ _ _ way 0 t refl))
        found (suc n) way t some = go (dec_le 32 t) (marked seen t) refl (dec_le 16 (at waits t)) (λ h w on. resource_found n way t h w on)
          where
            go : Dec (32 ≤ t) → (b : Bool) → marked seen t ≡ b → Dec (16 ≤ at waits t) →
                (t < 32 → at waits t < 16 → resource_way n waits holders seen (mark way t) (at waits t) ≢ 0 → Found way t (resource_way n waits holders seen (mark way t) (at waits t))) →
                Found way t (thread_way (suc n) waits holders seen way t)
            go (yes h) b s d on = absurd (some (thread_past _ _ _ way _ n refl t h))
            go (no h) true s d on = stops way t _ (thread_seen _ _ _ way _ n refl t (omega arith) s) (ended t s)
            go (no h) false s (yes w) on = stops way t _ (thread_free _ _ _ way _ n refl t (omega arith) s w) (zero, here {t = t} (omega arith) w)
            go (no h) false s (no w) on = let e = thread_on waits holders seen way (suc n) n refl t (omega arith) s (omega arith) in
                rw e (on (omega arith) (omega arith) (λ q. some (e ∙ q)))

        resource_found : (n way t : ℕ) → t < 32 → at waits t < 16 → resource_way n waits holders seen (mark way t) (at waits t) ≢ 0 →
            Found way t (resource_way n waits holders seen (mark way t) (at waits t))
        resource_found zero way t h w some = absurd (some (resource_none _ _ _ (mark way t) 0 (at waits t) refl))
        resource_found (suc n) way t h w some =
            let e = resource_on waits holders seen (mark way t) (suc n) n refl (at waits t) w in
            goes way t (at holders (at waits t)) _ (λ k. (suc k.0, goes_on {t = t} h w k.1))
            (rw e (found n (mark way t) (at holders (at waits t)) (λ q. some (e ∙ q))))
