-- Chains over any one-hop relation: `u ∈ children t` says that u waits for something that t holds. Assumes nothing.
use Prim.Native.Nat.{ℕ, zero, suc}
use mathlib.Core.Path.{◌≡◌, refl, sym, ap, subst}
use mathlib.Core.Logic.{◌⊎◌, inl, inr, ⊎_elim}
use native.Mathlib.Decide.{ℕ_discrete}
use Rattle.protocol.specs.Sets.{SetOf, ◌∈◌}

abbrev pub Hops : Type 1
Hops = ℕ → SetOf ℕ

-- u depends on t, directly or through a child of t
pub data Depends (children : Hops) (u : ℕ) : ℕ → Type 0 where
  direct : {t : ℕ} → u ∈ children t → Depends children u t
  through : {v t : ℕ} → Depends children u v → v ∈ children t → Depends children u t

-- u is t or depends on it
abbrev pub Reach : Hops → ℕ → ℕ → Type 0
Reach children u t = (u ≡ t) ⊎ Depends children u t

-- t waits for nobody
abbrev pub Free : Hops → ℕ → Type 0
Free children t = (h : ℕ) → ¬ (t ∈ children h)

-- going from t to whom it waits for, and so on, ends after n hops
pub data Climb (children : Hops) : ℕ → ℕ → Type 0 where
  stop : {t : ℕ} → Free children t → Climb children t zero
  hop : {t h n : ℕ} → t ∈ children h → Climb children h n → Climb children t (suc n)

abbrev pub Ends : Hops → ℕ → Type 0
Ends children t = (n : ℕ) × Climb children t n

-- each waits for one thread at most
abbrev pub OneParent : Hops → Type 0
OneParent children = (u t v : ℕ) → u ∈ children t → u ∈ children v → t ≡ v

module _ (children : Hops) where
  pub reach_hop : {u v t : ℕ} → Reach children u v → v ∈ children t → Depends children u t
  reach_hop {t = t} (inl e) k = direct {t = t} (rw e k)
  reach_hop (inr d) k = through d k

  pub depends_reach : {u v t : ℕ} → Depends children u v → Reach children v t → Depends children u t
  depends_reach d (inl e) = rw e at d
  depends_reach d (inr (direct k)) = through d k
  depends_reach d (inr (through j k)) = through (depends_reach d (inr j)) k

  pub reach_depends : {u v t : ℕ} → Reach children u v → Depends children v t → Depends children u t
  reach_depends {t = t} (inl e) d = subst (λ (x : ℕ). Depends children x t) (sym e) d
  reach_depends (inr d) j = depends_reach d (inr j)

  pub hop_reach : {u v t : ℕ} → u ∈ children v → Reach children v t → Depends children u t
  hop_reach k r = depends_reach (direct k) r

  -- the first hop of a dependence
  pub first_hop : {u t : ℕ} → Depends children u t → (p : ℕ) × (u ∈ children p) × Reach children p t
  first_hop (direct {t = t} k) = (t, k, inl refl)
  first_hop (through d k) = let w = first_hop d in (w.0, w.1, inr (reach_hop w.2 k))

  pub free_independent : {u t : ℕ} → Free children u → ¬ Depends children u t
  free_independent f d = let w = first_hop d in f w.0 w.1

  -- the end of the climb
  pub root : {t n : ℕ} → Climb children t n → (r : ℕ) × Free children r × Reach children t r
  root (stop {t = t} f) = (t, f, inl refl)
  root (hop k c) = let w = root c in (w.0, w.1, inr (hop_reach k w.2))

  module _ (one_parent : OneParent children) where
    -- whom u depends on, the one that u waits for is or depends on
    pub past : {u p t : ℕ} → u ∈ children p → Depends children u t → Reach children p t
    past {u} {p} {t} k d = let w = first_hop d in subst (λ (x : ℕ). Reach children x t) (one_parent u w.0 p w.1 k) w.2

    -- of two that u reaches, one reaches the other
    pub in_line : {u x y : ℕ} → Reach children u x → Reach children u y → Reach children x y ⊎ Reach children y x
    in_line {y = y} (inl e) r = inl (subst (λ (z : ℕ). Reach children z y) e r)
    in_line {x = x} (inr d) (inl e) = inr (inr (subst (λ (z : ℕ). Depends children z x) e d))
    in_line (inr (direct k)) (inr j) = inl (past k j)
    in_line {x = x} {y = y} (inr (through {v = v} d k)) (inr j) = go (in_line (inr d) (inr j))
      where
        go : Reach children v y ⊎ Reach children y v → Reach children x y ⊎ Reach children y x
        go (inl (inl e)) = inr (inr (direct {t = x} (rw e at k)))
        go (inl (inr i)) = inl (past k i)
        go (inr r) = inr (inr (reach_hop r k))

    -- so two of which neither depends on the other are one where u reaches both
    pub one_reached : {u x y : ℕ} → ¬ Depends children x y → ¬ Depends children y x → Reach children u x → Reach children u y → x ≡ y
    one_reached n m a b = ⊎_elim (⊎_elim (λ e. e) (λ d. absurd (n d))) (⊎_elim (λ e. sym e) (λ d. absurd (m d))) (in_line a b)

    pub climb_unique : {t n m : ℕ} → Climb children t n → Climb children t m → n ≡ m
    climb_unique (stop f) (stop g) = refl
    climb_unique (stop f) (hop k c) = absurd (f _ k)
    climb_unique (hop k c) (stop f) = absurd (f _ k)
    climb_unique (hop {t = t} {h = h} k c) (hop {h = h'} {n = n'} k' c') = ap suc (climb_unique c (subst (λ (x : ℕ). Climb children x n') (one_parent t h' h k' k) c'))

    -- whether u reaches t
    pub dec_reach : {u n : ℕ} → Climb children u n → (t : ℕ) → Dec (Reach children u t)
    dec_reach (stop {t = u} f) t = go (ℕ_discrete u t)
      where
        go : Dec (u ≡ t) → Dec (Reach children u t)
        go (yes e) = yes (inl e)
        go (no ne) = no (⊎_elim ne (free_independent f))
    dec_reach (hop {t = u} {h = h} k c) t = go (ℕ_discrete u t) (dec_reach c t)
      where
        go : Dec (u ≡ t) → Dec (Reach children h t) → Dec (Reach children u t)
        go (yes e) d = yes (inl e)
        go (no ne) (yes r) = yes (inr (hop_reach k r))
        go (no ne) (no nr) = no (⊎_elim ne (λ d. nr (past k d)))

    -- nobody depends on itself
    pub no_circle : {t n : ℕ} → Climb children t n → ¬ Depends children t t
    no_circle (stop f) d = free_independent f d
    no_circle (hop k c) d = no_circle c (reach_hop (past k d) k)
