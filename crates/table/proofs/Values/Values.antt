-- Current precedences as numbers, and the law that fixes them, over a table in good order. Assumes nothing.
use Prim.Native.Nat.{ℕ, ◌≤◌, ◌<◌}
use mathlib.Core.Path.{◌≡◌, refl, ap, ◌∙◌}
use mathlib.Core.Logic.{◌≢◌, ◌⊎◌, inl, inr, ⊎_elim, ◌↔◌}
use Rattle.protocol.specs.Sets.{SetOf, ◌∈◌, only, ◌∪◌, image, images, set, Max, Highest}
use Rattle.protocol.specs.Events.{Precedence, ◌≼◌}
use Rattle.protocol.specs.Rank.{rank}
use Rattle.protocol.specs.Children.{children}
use Rattle.protocol.proofs.Order.{≼_total}
use Rattle.protocol.proofs.Highest.{max_unique, max_map}
use Rattle.protocol.proofs.Chains.{Hops, Depends, Reach, Free, no_circle, hop_reach}
use Rattle.protocol.proofs.LocalLaw.{Current, Local, local_is_current}
use Rattle.protocol.proofs.Walk.{Afresh, walk_on, walk_stop}
use Rattle.protocol.proofs.Current.{Orderly, parents, parent_live, dependant_live, short, cprec_current, local_cprec}
use Rattle.protocol.proofs.Topmost.{source}
use Rattle.table.specs.declared.Table.{Table}
use Rattle.table.specs.Table.{live, own, queues, Cprec}
use Rattle.table.specs.Sound.{Bare}
use Rattle.table.specs.Code.Shape.{Shape}
use Rattle.table.specs.Compute.{current}
use Rattle.table.proofs.Sound.Queues.{live_low, taken_low, in_queue}
use Rattle.table.proofs.Values.Numbers.{≤_total, max_rank}
use Rattle.table.proofs.Sound.Order.{time_low, time_fits, bare_orderly}
use Rattle.table.proofs.Tests.Computed.{current_is, highest_is}

-- a table whose arrays have their sizes and that keeps all rules but those on its stored current precedences; so its queues are in good order
pub record Good (t : Table) : Type 0 where
  pub shape : Shape t
  pub bare : Bare t
  pub order : Orderly (queues t) (live t)

pub bare_good : (t : Table) → Shape t → Bare t → Good t
bare_good t s b = record { shape = s; bare = b; order = bare_orderly t s b }

module _ (t : Table) (g : Good t) where
  pub thread_low : (x : ℕ) → x ∈ live t → x < 32
  thread_low = live_low t g.shape

  pub resource_low : (x r : ℕ) → x ∈ set (queues t r) → r < 16
  resource_low x r i = let w = (in_queue t g.shape g.bare.queues_right.lengths r x).0 i in taken_low t g.shape r w.0 w.1

  pub current_defined : (x : ℕ) → Cprec t x (current t x)
  current_defined = current_is t g.order resource_low thread_low

  pub highest_defined : (M : SetOf ℕ) (b : ℕ) → b ∈ M → ((u : ℕ) → u ∈ M → current t u ≼ current t b) → b ∈ Highest ◌≼◌ (Cprec t) M
  highest_defined = highest_is t g.order resource_low thread_low

  -- who waits for what th holds
  abbrev pub hops : Hops
  hops = children (queues t)

  abbrev pub own_rank : ℕ → ℕ
  own_rank x = rank 65535 (own t x)

  -- the number of the current precedence
  abbrev pub worth : ℕ → ℕ
  worth x = rank 65535 (current t x)

  -- nobody depends on itself
  pub acyclic : (x : ℕ) → ¬ Depends hops x x
  acyclic x = no_circle hops (parents g.order) (g.order.forest.ends x).1

  OwnBehind : ℕ → SetOf Precedence
  OwnBehind x = only (own t x) ∪ image (own t) (λ u. Depends hops u x)

  -- a current precedence is somebody's own
  pub current_fits : (x : ℕ) → (current t x).1 ≤ 65535
  unfolding OwnBehind
  current_fits x = ⊎_elim (λ e. rw e (time_fits g.bare x)) (λ w. rw w.2 (time_fits g.bare w.0)) is.among
    where
      is : Max ◌≼◌ (OwnBehind x) (current t x)
      is = cprec_current (queues t) (own t) x (current t x) (current_defined x)

  -- somebody live, if x is
  pub current_low : (x : ℕ) → x ∈ live t → ((current t x).0 ≤ 255) × ((current t x).1 < 65535)
  current_low x l = let u = source g.order (own t) x l (current t x) (current_defined x) in rw u.3 (g.bare.priorities u.0, time_low g.bare u.0 u.1)

  -- the highest number behind x is its worth
  pub worth_is : (x m : ℕ) → Current ◌≤◌ hops own_rank x m → m ≡ worth x
  unfolding OwnBehind
  worth_is x m k = max_unique ◌≤◌ ≤_total k (max_map ◌≤◌ ≤_total to from (ranked.0 is))
    where
      is : Max ◌≼◌ (OwnBehind x) (current t x)
      is = cprec_current (queues t) (own t) x (current t x) (current_defined x)

      fits : (p : Precedence) → p ∈ OwnBehind x → p.1 ≤ 65535
      fits p = ⊎_elim (λ e. rw e (time_fits g.bare x)) (λ w. rw w.2 (time_fits g.bare w.0))

      ranked : Max ◌≼◌ (OwnBehind x) (current t x) ↔ Max ◌≤◌ (image (rank 65535) (OwnBehind x)) (worth x)
      ranked = max_rank 65535 (OwnBehind x) fits (current t x) (current_fits x)

      to : (a : ℕ) → a ∈ image (rank 65535) (OwnBehind x) → a ∈ (only (own_rank x) ∪ image own_rank (λ u. Depends hops u x))
      to a (p, inl e, f) = inl (f ∙ ap (rank 65535) e)
      to a (p, inr (u, d, e), f) = inr (u, d, f ∙ ap (rank 65535) e)

      from : (a : ℕ) → a ∈ (only (own_rank x) ∪ image own_rank (λ u. Depends hops u x)) → a ∈ image (rank 65535) (OwnBehind x)
      from a (inl e) = (own t x, inl refl, e)
      from a (inr (u, d, e)) = (own t u, inr (u, d, refl), e)

  -- the law, in numbers, at one thread
  abbrev pub Lawful : (ℕ → ℕ) → ℕ → Type 0
  Lawful c x = Local ◌≤◌ hops own_rank c x (c x)

  -- the current precedences satisfy it
  pub worth_lawful : (x : ℕ) → Lawful worth x
  worth_lawful x = max_map ◌≤◌ ≤_total to from ((max_rank 65535 Among low (current t x) (current_fits x)).0 ((local_cprec g.order (own t) x (current t x)).0 (current_defined x)))
    where
      Among : SetOf Precedence
      Among = only (own t x) ∪ images (Cprec t) (children (queues t) x)

      is : (u : ℕ) (p : Precedence) → Cprec t u p → p ≡ current t u
      is u p c = max_unique ◌≼◌ ≼_total c (current_defined u)

      low : (p : Precedence) → p ∈ Among → p.1 ≤ 65535
      low p (inl e) = rw e (time_fits g.bare x)
      low p (inr (u, k, c)) = rw (is u p c) (current_fits u)

      to : (a : ℕ) → a ∈ image (rank 65535) Among → a ∈ (only (own_rank x) ∪ image worth (hops x))
      to a (p, inl e, f) = inl (f ∙ ap (rank 65535) e)
      to a (p, inr (u, k, c), f) = inr (u, k, f ∙ ap (rank 65535) (is u p c))

      from : (a : ℕ) → a ∈ (only (own_rank x) ∪ image worth (hops x)) → a ∈ image (rank 65535) Among
      from a (inl e) = (own t x, inl refl, e)
      from a (inr (u, k, e)) = (current t u, inr (u, k, current_defined u), e)

  -- the law at a thread and its dependants gives its worth
  pub law_worth : (c : ℕ → ℕ) (x : ℕ) → ((u : ℕ) → Reach hops u x → Lawful c u) → c x ≡ worth x
  law_worth c x law = worth_is x (c x) (local_is_current ◌≤◌ ≤_total hops own_rank (parents g.order) g.order.forest.ends g.order.limit (short g.order)
      (λ u. Reach hops u x) (λ u v r k. inr (hop_reach hops k r)) c law x (inl refl))

  -- at all live threads, all their worths
  pub all_worth : (c : ℕ → ℕ) → ((x : ℕ) → x ∈ live t → Lawful c x) → (x : ℕ) → x ∈ live t → c x ≡ worth x
  all_worth c law x l = law_worth c x (λ u. ⊎_elim (λ e. law u (rw e l)) (λ d. law u (dependant_live g.order d)))

  -- The walk stands at x: the law holds everywhere else, and from x upwards the values are the ones from before.
  pub record StandsAt (before c : ℕ → ℕ) (x : ℕ) : Type 0 where
    pub here : x ∈ live t
    pub others : (y : ℕ) → y ∈ live t → y ≢ x → Lawful c y
    pub above : (y : ℕ) → Reach hops x y → c y ≡ before y

  module _ (before c e : ℕ → ℕ) (x : ℕ) (w : StandsAt before c x) (afresh : Afresh ◌≤◌ hops own_rank c x e) where
    -- what is worked out is the thread's worth
    pub worked_out : e x ≡ worth x
    worked_out = law_worth e x (λ u r. walk_on ◌≤◌ hops own_rank (live t) c e x w.others afresh u (alive u r) (λ k. acyclic x (hop_reach hops {u = x} {v = u} {t = x} k r)))
      where
        alive : (u : ℕ) → Reach hops u x → u ∈ live t
        alive u (inl q) = rw q w.here
        alive u (inr d) = dependant_live g.order d

    -- if the value stays the same, or x waits for nothing, all values are right
    pub walk_ends : (e x ≡ c x) ⊎ Free hops x → (y : ℕ) → y ∈ live t → e y ≡ worth y
    walk_ends = ⊎_elim
        (λ same. all_worth e (walk_stop ◌≤◌ hops own_rank (live t) c e x w.others afresh same))
        (λ free. all_worth e (λ y l. walk_on ◌≤◌ hops own_rank (live t) c e x w.others afresh y l (free y)))

    -- otherwise the walk stands at its holder
    pub walk_goes_on : (h : ℕ) → x ∈ hops h → StandsAt before e h
    walk_goes_on h k = record {
      here = parent_live g.order x h k;
      others = λ y l n. walk_on ◌≤◌ hops own_rank (live t) c e x w.others afresh y l (λ j. n (parents g.order x y h j k));
      above = λ y r. afresh.elsewhere y (λ q. acyclic x (hop_reach hops k (rw q at r))) ∙ w.above y (inr (hop_reach hops k r));
    }
