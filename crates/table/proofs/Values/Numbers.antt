-- Precedences and their numbers: the same order, and what stands for whom. Assumes nothing.
use Prim.Native.Nat.{ℕ, ◌≤◌, ◌<◌}
use mathlib.Core.Path.{◌≡◌, refl, sym, subst, ◌∙◌}
use mathlib.Core.List.{List}
use mathlib.Core.Logic.{◌≢◌, ◌⊎◌, inl, inr, ◌↔◌}
use native.Mathlib.Decide.{dec_le}
use native.Mathlib.Omega.{arith}
use borrow.Author.Tests.{eq-eqb, ne_eqb}
use Rattle.protocol.specs.Sets.{SetOf, ◌∈◌, image, Max}
use Rattle.protocol.specs.Events.{Thread, Precedence, ◌≼◌}
use Rattle.protocol.specs.Rank.{rank}
use Rattle.protocol.proofs.Order.{Total, ≼_rank, rank_same}
use Rattle.table.specs.declared.Table.{Table}
use Rattle.table.specs.Table.{at, live, own}
use Rattle.table.specs.Code.Places.{slot_number}
use Rattle.table.specs.Code.Tracks.{own_number}
use Rattle.table.specs.Code.Shape.{Shape}
use Rattle.table.proofs.Sound.Queues.{live_low}

pub ≤_total : Total ◌≤◌
≤_total = record { reflexive = λ a. omega arith; transitive = λ a b c h k. omega arith; antisymmetric = λ a b h k. omega arith; either = λ a b. go a b (dec_le a b) }
  where
    go : (a b : ℕ) → Dec (a ≤ b) → (a ≤ b) ⊎ (b ≤ a)
    go a b (yes h) = inl h
    go a b (no n) = inr (omega arith)

-- a maximum of precedences is the maximum of their numbers
module _ (N : ℕ) (M : SetOf Precedence) (low : (p : Precedence) → p ∈ M → p.1 ≤ N) (m : Precedence) (fits : m.1 ≤ N) where
  pub max_rank : Max ◌≼◌ M m ↔ Max ◌≤◌ (image (rank N) M) (rank N m)
  max_rank = (
    λ k. record { among = (m, k.among, refl); bound = λ a w. rw w.2 ((≼_rank N w.0 m (low w.0 w.1) fits).0 (k.bound w.0 w.1)) },
    λ k. record {
      among = let w = k.among in subst (λ (p : Precedence). p ∈ M) (sym (rank_same N m w.0 fits (low w.0 w.1) w.2)) w.1;
      bound = λ p i. (≼_rank N p m (low p i) fits).1 (k.bound (rank N p) (p, i, refl));
    },
  )

-- the number of a live slot is that of its precedence, the number of another is 0
pub slot_live : (live priority time : ℕ) → live ≡ 1 → slot_number live priority time ≡ rank 65535 (priority, time)
slot_live live priority time l = rw (eq-eqb live 1 l)

pub slot_dead : (live priority time : ℕ) → live ≢ 1 → slot_number live priority time ≡ 0
slot_dead live priority time n = rw (ne_eqb live 1 n)

-- the numbers of the own precedences: a live thread's is its rank
pub owned : (t : Table) → Shape t → (owns : List ℕ) → ((th : Thread) → th < 32 → at owns th ≡ own_number t th) → (x : ℕ) → x ∈ live t → at owns x ≡ rank 65535 (own t x)
owned t shape owns right x l = right x (live_low t shape x l) ∙ slot_live (at t.live x) (at t.priority x) (at t.time x) l
