-- What the tests of the refusals tell. Assumes nothing.
use Prim.Native.Nat.{ℕ, ◌<◌}
use mathlib.Core.Path.{◌≡◌, refl, sym, subst, ◌∙◌}
use mathlib.Core.Bool.{Bool, true, false, not, false≢true}
use mathlib.Core.Logic.Dec
use mathlib.Core.Logic.{◌⊎◌, inl, inr, ⊎_elim}
use native.Mathlib.Omega.{arith}
use lib.Dec.{eqb}
use Rattle.protocol.specs.Sets.{◌∈◌}
use Rattle.protocol.specs.Graph.{T, C, RAG, ◌⁺}
use Rattle.protocol.specs.Children.{children}
use Rattle.protocol.proofs.Chains.{Reach}
use Rattle.protocol.proofs.Graphs.{leads as way_leads, leads_way}
use Rattle.protocol.proofs.Current.{dependant_live}
use Rattle.protocol.proofs.Decide.{dec_some}
use Rattle.table.specs.declared.Table.{Table}
use Rattle.table.specs.Table.{queues, Holds, running}
use Rattle.table.specs.Compute.{holder, runner}
use Rattle.table.proofs.Tests.Reflect.{Tells, tells_eq, tells_lt, tells_both, tells_either, tells_not, tells_below}
use Rattle.table.proofs.Tests.Computed.{holds_holder, tells_depends}
use Rattle.table.proofs.Sound.Read.{holder_holds, runs, one_runner}
use Rattle.table.proofs.Values.Values.{Good, thread_low, resource_low}
use Rattle.refusals.specs.declared.Record.{Record}
use Rattle.refusals.specs.Refusals.{malformed, leads, holds_any}

-- a test that fails tells that it is not so
pub tells_false : {b : Bool} {A : Type 0} → Tells b A → b ≡ false → ¬ A
tells_false p e a = false≢true (sym e ∙ p.1 a)

-- what a test tells, in other words
pub retell : {b : Bool} {A B : Type 0} → Tells b A → (A → B) → (B → A) → Tells b B
retell k f g = ((λ e. f (k.0 e)), λ y. k.1 (g y))

-- what is told is decided
pub decides : {b : Bool} {A : Type 0} → Tells b A → Dec A
decides {b} {A} k = go b k
  where
    go : (b : Bool) → Tells b A → Dec A
    go true k = yes (k.0 refl)
    go false k = no (tells_false k refl)

-- where not both A and the contrary of B, A gives B
pub unless : {A B : Type 0} → Dec B → ¬ (A × ¬ B) → A → B
unless (yes b) n a = b
unless (no c) n a = absurd (n (a, c))

-- 4: P or V with a resource above 15; Exit with an argument other than 0; fourth byte not 0
pub tells_malformed : (e : Record) → Tells (malformed e) ((((e.kind ≡ 4) ⊎ (e.kind ≡ 5)) × (15 < e.argument)) ⊎ (((e.kind ≡ 2) × ¬ (e.argument ≡ 0)) ⊎ ¬ (e.zero ≡ 0)))
unfolding malformed
tells_malformed e = tells_either
    (tells_both (tells_either (tells_eq e.kind 4) (tells_eq e.kind 5)) (tells_lt 15 e.argument))
    (tells_either (tells_both (tells_eq e.kind 2) (tells_not (tells_eq e.argument 0))) (tells_not (tells_eq e.zero 0)))

module _ (t : Table) (g : Good t) where
  -- 8: whether a thread runs
  pub tells_running : (th : ℕ) → th < 32 → Tells (eqb (runner t) th) (th ∈ running t)
  tells_running th low = retell (tells_eq (runner t) th)
      (λ k. ⊎_elim (λ w. subst (λ (x : ℕ). x ∈ running t) k w.1) (λ w. absurd (omega (arith, w.0))) (runs t g))
      (λ r. one_runner t g (runner t) th (runs t g) (inl (low, r)))

  -- 9: whether a chain leads from a resource to a thread: its holder is that thread or waits for it
  pub tells_behind : (cs th : ℕ) → th < 32 → Tells (leads t cs th) ((v : ℕ) × Holds t v cs × Reach (children (queues t)) v th)
  unfolding leads
  tells_behind cs th low = retell (tells_either (tells_eq (holder t cs) th) (tells_depends t g.order (resource_low t g) (thread_low t g) (holder t cs) th))
      (λ r. (holder t cs, holder_holds t g (holder t cs) cs (small r) refl, r))
      (λ w. subst (λ (x : ℕ). Reach (children (queues t)) x th) (sym (holds_holder t w.0 cs w.1)) w.2)
    where
      small : Reach (children (queues t)) (holder t cs) th → holder t cs < 32
      small (inl e) = omega arith
      small (inr d) = thread_low t g (holder t cs) (dependant_live g.order d)

  pub tells_leads : (cs th : ℕ) → th < 32 → Tells (leads t cs th) ((RAG (queues t) ⁺) (C cs) (T th))
  tells_leads cs th low = retell (tells_behind cs th low) (λ w. leads_way (queues t) w.1 w.2) (way_leads (queues t))

  -- 10: whether a thread holds a resource
  pub tells_holds : (th cs : ℕ) → th < 32 → Tells (eqb (holder t cs) th) (Holds t th cs)
  tells_holds th cs low = retell (tells_eq (holder t cs) th) (holder_holds t g th cs low) (holds_holder t th cs)

  -- 11: whether a thread holds any resource
  pub tells_holds_any : (th : ℕ) → th < 32 → Tells (holds_any t th) ((cs : ℕ) × Holds t th cs)
  unfolding holds_any
  tells_holds_any th low = retell (tells_not (tells_below 16 (λ cs. not (eqb (holder t cs) th)) (λ cs. ¬ Holds t th cs) (λ cs h. tells_not (tells_holds th cs low))))
      (λ n. (Dec.not-not (dec_some (Holds t th) (λ cs. decides (tells_holds th cs low)) 16 (λ cs h. resource_low t g th cs h.0))).0 (λ no. n (λ cs l h. no (cs, h))))
      (λ w n. n w.0 (resource_low t g th w.0 w.1.0) w.1)
