-- Current precedences over any queues in good order: each thread has one, and the local law says which. Assumes nothing.
use Prim.Native.Nat.{ℕ, suc, ◌≤◌, ◌<◌, max}
use mathlib.Core.Path.{◌≡◌, refl}
use mathlib.Core.Logic.{◌≢◌, ◌⊎◌, inl, inr, ⊎_elim, ◌↔◌}
use native.Mathlib.Decide.{map_dec}
use native.Mathlib.Omega.{arith}
use Rattle.protocol.specs.Sets.{SetOf, ◌∈◌, only, ◌∪◌, image, images, set, Max}
use Rattle.protocol.specs.Events.{Precedence, ◌≼◌}
use Rattle.protocol.specs.Graph.{Queues, Waits, Cprec}
use Rattle.protocol.specs.Children.{children, LocalLaw}
use Rattle.protocol.proofs.Decide.{dec_some}
use Rattle.protocol.proofs.Order.{≼_total}
use Rattle.protocol.proofs.Highest.{max_unique, max_map, max_below}
use Rattle.protocol.proofs.Chains.{Depends, direct, through, Reach, OneParent, first_hop, hop_reach, dec_reach}
use Rattle.protocol.proofs.Graphs.{leads, depends_way}
use Rattle.protocol.proofs.Lists.{dec_waits, in_held}
use Rattle.protocol.proofs.Ways.{one_parent, climb_way, way_bounded}
use Rattle.protocol.proofs.LocalLaw.{Current, local_current, current_local, local_is_current}
use Rattle.protocol.proofs.Walk.{Afresh, walk_on, walk_stop}
use Rattle.protocol.proofs.Forest.{Forest}

-- the paper's closure and the hops name the same dependants
module _ (wq : Queues) (own : ℕ → Precedence) (t : ℕ) (m : Precedence) where
  pub current_cprec : Current ◌≼◌ (children wq) own t m → Cprec wq own t m
  current_cprec = max_map ◌≼◌ ≼_total (λ a. ⊎_elim inl (λ w. inr (w.0, depends_way wq w.1, w.2))) (λ a. ⊎_elim inl (λ w. inr (w.0, leads wq w.1, w.2)))

  pub cprec_current : Cprec wq own t m → Current ◌≼◌ (children wq) own t m
  cprec_current = max_map ◌≼◌ ≼_total (λ a. ⊎_elim inl (λ w. inr (w.0, leads wq w.1, w.2))) (λ a. ⊎_elim inl (λ w. inr (w.0, depends_way wq w.1, w.2)))

-- no circle, live entries, and all threads and taken resources below some number
pub record Orderly (wq : Queues) (live : SetOf ℕ) : Type 0 where
  pub forest : Forest wq
  pub entries : (r t : ℕ) → t ∈ set (wq r) → t ∈ live
  pub decided : (t : ℕ) → Dec (t ∈ live)
  pub limit : ℕ
  pub thread_low : (t : ℕ) → t ∈ live → t < limit
  pub taken_low : (r t : ℕ) → t ∈ set (wq r) → r < limit

module _ {wq : Queues} {live : SetOf ℕ} (o : Orderly wq live) where
  pub parents : OneParent (children wq)
  parents = one_parent wq o.forest.one_wait

  pub child_live : (u t : ℕ) → u ∈ children wq t → u ∈ live
  child_live u t (r, w, h) = o.entries r u w.0

  pub parent_live : (u t : ℕ) → u ∈ children wq t → t ∈ live
  parent_live u t (r, w, h) = o.entries r t h.0

  pub dependant_live : {u t : ℕ} → Depends (children wq) u t → u ∈ live
  dependant_live {u} d = let w = first_hop (children wq) d in child_live u w.0 w.1

  pub dependee_live : {u t : ℕ} → Depends (children wq) u t → t ∈ live
  dependee_live {u} (direct {t = t} k) = parent_live u t k
  dependee_live (through {v = v} {t = t} d k) = parent_live v t k

  pub dec_waiting : (t : ℕ) → Dec ((r : ℕ) × Waits wq t r)
  dec_waiting t = dec_some (Waits wq t) (λ r. dec_waits t (wq r)) o.limit (λ r w. o.taken_low r t w.0)

  -- whether t waits for somebody
  pub dec_parent : (t : ℕ) → Dec ((h : ℕ) × (t ∈ children wq h))
  dec_parent t = map_dec (λ w. let h = in_held (wq w.0) t w.1.0 in (h.0, (w.0, w.1, h.1))) (λ k. (k.1.0, k.1.1)) (dec_waiting t)

  -- no climb is longer than there are resources
  pub short : (t : ℕ) → (o.forest.ends t).0 ≤ o.limit
  short t = way_bounded wq o.forest.one_wait o.limit (λ u r h. o.taken_low r u h.0) (climb_way wq (o.forest.ends t).1)

  module _ (own : ℕ → Precedence) where
    -- every thread has a current precedence, and one only
    pub cprec_some : (t : ℕ) → (m : Precedence) × Cprec wq own t m
    cprec_some t = ⊎_elim
        (λ none. absurd (none t (omega arith) (inl refl)))
        (λ w. (w.0, current_cprec wq own t w.0 (max_map ◌≼◌ ≼_total to from w.1)))
        (max_below ◌≼◌ ≼_total Behind (λ u. dec_reach (children wq) parents (o.forest.ends u).1 t) own top)
      where
        Behind : SetOf ℕ
        Behind u = Reach (children wq) u t

        top : ℕ
        top = max (suc t) o.limit

        to : (a : Precedence) → a ∈ image own (λ u. (u < top) × Behind u) → a ∈ (only (own t) ∪ image own (λ u. Depends (children wq) u t))
        to a (u, (l, inl q), e) = inl (rw q at e)
        to a (u, (l, inr d), e) = inr (u, d, e)

        from : (a : Precedence) → a ∈ (only (own t) ∪ image own (λ u. Depends (children wq) u t)) → a ∈ image own (λ u. (u < top) × Behind u)
        from a (inl e) = (t, (omega arith, inl refl), e)
        from a (inr (u, d, e)) = (u, (omega (arith, o.thread_low u (dependant_live d)), inr d), e)

    abbrev pub now : ℕ → Precedence
    now t = (cprec_some t).0

    pub cprec_is_now : (t : ℕ) (m : Precedence) → Cprec wq own t m → m ≡ now t
    cprec_is_now t m k = max_unique ◌≼◌ ≼_total k (cprec_some t).1

    -- what is said of some threads' current precedences is said of these
    pub now_images : (M : SetOf ℕ) (a : Precedence) → a ∈ image now M → a ∈ images (Cprec wq own) M
    now_images M a (u, i, e) = (u, i, rw e (cprec_some u).1)

    pub images_now : (M : SetOf ℕ) (a : Precedence) → a ∈ images (Cprec wq own) M → a ∈ image now M
    images_now M a (u, i, c) = (u, i, cprec_is_now u a c)

    -- they satisfy the local law
    now_current : (t : ℕ) → Current ◌≼◌ (children wq) own t (now t)
    now_current t = cprec_current wq own t (now t) (cprec_some t).1

    pub now_law : (t : ℕ) → LocalLaw wq own now t (now t)
    now_law t = current_local ◌≼◌ ≼_total (children wq) own now t (λ u i. now_current u) (now t) (now_current t)

    -- Lemma 4
    pub local_cprec : (t : ℕ) (m : Precedence) → Cprec wq own t m ↔ Max ◌≼◌ (only (own t) ∪ images (Cprec wq own) (children wq t)) m
    local_cprec t m = (
      λ k. max_map ◌≼◌ ≼_total to from (current_local ◌≼◌ ≼_total (children wq) own now t (λ u i. now_current u) m (cprec_current wq own t m k)),
      λ k. current_cprec wq own t m (local_current ◌≼◌ ≼_total (children wq) own now t (λ u i. now_current u) m (max_map ◌≼◌ ≼_total from to k)),
    )
      where
        to : (a : Precedence) → a ∈ (only (own t) ∪ image now (children wq t)) → a ∈ (only (own t) ∪ images (Cprec wq own) (children wq t))
        to a = ⊎_elim inl (λ w. inr (now_images (children wq t) a w))

        from : (a : Precedence) → a ∈ (only (own t) ∪ images (Cprec wq own) (children wq t)) → a ∈ (only (own t) ∪ image now (children wq t))
        from a = ⊎_elim inl (λ w. inr (images_now (children wq t) a w))

    -- and its converse: the local law at a thread and its dependants fixes the thread's value
    pub law_behind : (c : ℕ → Precedence) (x : ℕ) → ((t : ℕ) → Reach (children wq) t x → LocalLaw wq own c t (c t)) → Cprec wq own x (c x)
    law_behind c x law = current_cprec wq own x (c x) (local_is_current ◌≼◌ ≼_total (children wq) own parents o.forest.ends o.limit short
        (λ t. Reach (children wq) t x) (λ u t r k. inr (hop_reach (children wq) k r)) c law x (inl refl))

    -- so at all live threads it fixes all their values
    pub law_cprec : (c : ℕ → Precedence) → ((t : ℕ) → t ∈ live → LocalLaw wq own c t (c t)) → (t : ℕ) → t ∈ live → Cprec wq own t (c t)
    law_cprec c law t l = law_behind c t (λ u. ⊎_elim (λ e. law u (rw e l)) (λ d. law u (dependant_live d)))

    -- the law of the walk
    pub law_walk : (c e : ℕ → Precedence) (x : ℕ) → ((t : ℕ) → t ∈ live → t ≢ x → LocalLaw wq own c t (c t)) →
        LocalLaw wq own c x (e x) → ((t : ℕ) → t ≢ x → e t ≡ c t) →
        (((t : ℕ) → t ∈ live → LocalLaw wq own e t (e t)) ⊎ ((h : ℕ) × (x ∈ children wq h) × ((t : ℕ) → t ∈ live → t ≢ h → LocalLaw wq own e t (e t))))
        × (e x ≡ c x → (t : ℕ) → t ∈ live → LocalLaw wq own e t (e t))
    law_walk c e x but_x there elsewhere = (go (dec_parent x), walk_stop ◌≼◌ (children wq) own live c e x but_x afresh)
      where
        afresh : Afresh ◌≼◌ (children wq) own c x e
        afresh = record { there = there; elsewhere = elsewhere }

        on : (t : ℕ) → t ∈ live → ¬ (x ∈ children wq t) → LocalLaw wq own e t (e t)
        on = walk_on ◌≼◌ (children wq) own live c e x but_x afresh

        go : Dec ((h : ℕ) × (x ∈ children wq h)) → ((t : ℕ) → t ∈ live → LocalLaw wq own e t (e t)) ⊎ ((h : ℕ) × (x ∈ children wq h) × ((t : ℕ) → t ∈ live → t ≢ h → LocalLaw wq own e t (e t)))
        go (yes w) = inr (w.0, w.1, λ t l n. on t l (λ k. n (parents x t w.0 k w.1)))
        go (no n) = inl (λ t l. on t l (λ k. n (t, k)))
