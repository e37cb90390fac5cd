-- One thread runs where any is live, and one only, over any queues in good order. Assumes nothing.
use Prim.Native.Nat.{ℕ}
use mathlib.Core.Path.{◌≡◌}
use mathlib.Core.Logic.Dec
use mathlib.Core.Logic.{inl, inr}
use native.Mathlib.Decide.{map_dec}
use Rattle.protocol.specs.Sets.{SetOf, ◌∈◌, Highest}
use Rattle.protocol.specs.Events.{Precedence, ◌≼◌}
use Rattle.protocol.specs.Graph.{Queues, Waits, Cprec}
use Rattle.protocol.specs.Children.{children}
use Rattle.protocol.proofs.Chains.{Reach, root, free_independent}
use Rattle.protocol.proofs.Ways.{free_waits, waits_free}
use Rattle.protocol.proofs.Current.{Orderly, dependee_live, dec_waiting}
use Rattle.protocol.proofs.Topmost.{topmost_some, topmost_one}

-- live, and waiting for nothing
abbrev pub Ready : Queues → SetOf ℕ → SetOf ℕ
Ready wq live = λ t. (t ∈ live) × ((r : ℕ) → ¬ Waits wq t r)

-- ready, and of the highest current precedence of all ready threads
abbrev pub Runs : Queues → (ℕ → Precedence) → SetOf ℕ → SetOf ℕ
Runs wq own live = Highest ◌≼◌ (Cprec wq own) (Ready wq live)

module _ {wq : Queues} {live : SetOf ℕ} (o : Orderly wq live) where
  pub dec_ready : (t : ℕ) → Dec (t ∈ Ready wq live)
  dec_ready t = Dec.and (o.decided t) (map_dec (λ n r w. n (r, w)) (λ n w. n w.0 w.1) (Dec.not (dec_waiting o t)))

  -- the end of a live thread's climb is ready
  pub leader : (t : ℕ) → t ∈ live → (r : ℕ) × (r ∈ Ready wq live) × Reach (children wq) t r
  leader t l = let w = root (children wq) (o.forest.ends t).1 in (w.0, (alive w.0 w.2, λ cs. free_waits wq w.0 cs w.1), w.2)
    where
      alive : (r : ℕ) → Reach (children wq) t r → r ∈ live
      alive r (inl e) = rw e at l
      alive r (inr d) = dependee_live o d

  module _ (own : ℕ → Precedence) where
    pub running_some : (t : ℕ) → t ∈ live → (r : ℕ) × (r ∈ Runs wq own live)
    running_some t l = let w = leader t l in topmost_some o own (Ready wq live) (λ u i. i.0) dec_ready w.0 w.1

    -- who is ready depends on nobody
    pub running_unique : ((t u : ℕ) → t ∈ live → u ∈ live → own t ≡ own u → t ≡ u) → (t v : ℕ) → t ∈ Runs wq own live → v ∈ Runs wq own live → t ≡ v
    running_unique differ = topmost_one o own (Ready wq live) (λ u i. i.0) differ (λ t v i j. free_independent (children wq) (waits_free wq t i.1))
