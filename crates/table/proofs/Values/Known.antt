-- What is known of a table that was found sound, as worths; and back from worths to what goes with a table. Assumes nothing.
use Prim.Native.Nat.{ℕ, ◌≤◌, ◌<◌}
use mathlib.Core.Path.{◌≡◌, sym, ◌∙◌}
use mathlib.Core.List.{List}
use native.Mathlib.Decide.{ℕ_discrete}
use Rattle.protocol.specs.Sets.{◌∈◌}
use Rattle.protocol.specs.Rank.{rank}
use Rattle.protocol.proofs.Walk.{local_cong}
use Rattle.protocol.proofs.Current.{child_live}
use Rattle.table.specs.declared.Table.{Table}
use Rattle.table.specs.Table.{at, live}
use Rattle.table.specs.Compute.{current}
use Rattle.table.specs.Code.Tracks.{current_number, Known}
use Rattle.table.proofs.Sound.Read.{if_live, if_dead, sound_good}
use Rattle.table.proofs.Values.Numbers.{owned}
use Rattle.table.proofs.Values.Values.{Good, hops, own_rank, worth, Lawful, worth_lawful}
use Rattle.table.proofs.Values.Runs.{live_number, dead_number}

module _ (t : Table) {waits holders owns currents : List ℕ} (k : Known t waits holders owns currents) where
  pub known_good : Good t
  known_good = sound_good t k.shape k.sound

  pub known_own : (x : ℕ) → x ∈ live t → at owns x ≡ own_rank t known_good x
  known_own = owned t k.shape owns k.owns_right

  pub known_worth : (x : ℕ) → x ∈ live t → at currents x ≡ worth t known_good x
  known_worth = live_number t known_good k.tracks

  -- so the numbers satisfy the law
  pub known_lawful : (x : ℕ) → x ∈ live t → Lawful t known_good (at currents) x
  known_lawful x l = rw (known_worth x l) (local_cong ◌≤◌ (hops t known_good) (own_rank t known_good) (worth t known_good) (at currents) x (worth t known_good x) (λ u c. known_worth u (child_live known_good.order u x c)) (worth_lawful t known_good x))

  pub known_dead : (x : ℕ) → x < 32 → ¬ (x ∈ live t) → at currents x ≡ 0
  known_dead = dead_number t known_good k.tracks

-- the worths of the live and zeros elsewhere are the numbers that go with a table
pub worths_tracked : (t : Table) (g : Good t) (currents : List ℕ) → ((x : ℕ) → x ∈ live t → at currents x ≡ worth t g x) → ((x : ℕ) → x < 32 → ¬ (x ∈ live t) → at currents x ≡ 0) →
    (x : ℕ) → x < 32 → at currents x ≡ current_number t x
worths_tracked t g currents alive dead x h = go (ℕ_discrete (at t.live x) 1)
  where
    go : Dec (x ∈ live t) → at currents x ≡ current_number t x
    go (yes l) = alive x l ∙ sym (if_live t x (rank 65535 (current t x)) l)
    go (no n) = dead x h n ∙ sym (if_dead t x (rank 65535 (current t x)) n)
