-- While the events spare the highest thread it stays the highest, and whoever stands in no queue neither runs nor joins one.
-- Assumes nothing.
use Prim.Native.Nat.{ℕ, ◌≤◌, ◌<◌}
use mathlib.Core.Path.{◌≡◌, refl, sym, ap, subst, ◌∙◌}
use mathlib.Core.List.{◌∷◌}
use mathlib.Core.Logic.{◌≢◌, ◌⊎◌, inl, inr, ⊎_elim}
use native.Mathlib.Decide.{ℕ_discrete}
use native.Mathlib.Omega.{arith}
use lib.ListN.{length}
use Rattle.protocol.specs.Sets.{◌∈◌}
use Rattle.protocol.specs.Events.{Event, Create, Exit, Set, P, «V», State, threads, Precedence, prec, ◌≼◌}
use Rattle.protocol.specs.Schedule.{wq, Cprec, ready, running}
use Rattle.protocol.specs.Rules.{Step, create, request}
use Rattle.protocol.specs.Children.{children}
use Rattle.protocol.specs.Demand3.{HoldsOrWaits, Spares}
use Rattle.protocol.proofs.Order.{sides, ≼_total}
use Rattle.protocol.proofs.Chains.{Depends, direct, through, Reach}
use Rattle.protocol.proofs.Kept.{Kept, prec_differs, step_joins, step_passes}
use Rattle.protocol.proofs.Forest.{join_in, pass_in}
use Rattle.protocol.proofs.Finite.{orderly, in_attached, attached_in}
use Rattle.protocol.proofs.Current.{cprec_current, cprec_some}
use Rattle.protocol.proofs.Topmost.{source}
use Rattle.protocol.proofs.Runner.{leader}
use Rattle.protocol.proofs.Changes.{else_prec, stamped_prec}

-- th is live in m, and its own precedence is p, the highest of all live threads
pub record Stands (th : ℕ) (p : Precedence) (m : State) : Type 0 where
  pub live : th ∈ threads m
  pub own : prec th m ≡ p
  pub highest : (u : ℕ) → u ∈ threads m → prec u m ≼ p

-- what is set now, to a priority not above it, is below it
pub newer_lower : (prio now : ℕ) (p : Precedence) → prio ≤ p.0 → p.1 < now → (prio, now) ≼ p
newer_lower prio now p h k = go (sides prio p.0)
  where
    go : (prio < p.0) ⊎ ((prio ≡ p.0) ⊎ (p.0 < prio)) → (prio, now) ≼ p
    go (inl l) = inr (inl l)
    go (inr (inl e)) = inr (inr (sym e, k))
    go (inr (inr g)) = absurd (omega arith)

module _ (m : State) (kept : Kept m) (th : ℕ) (p : Precedence) (stands : Stands th p m) where
  -- the current precedence of a live thread is at most p
  pub capped : (u : ℕ) → u ∈ threads m → (x : Precedence) → Cprec m u x → x ≼ p
  capped u l x k = let w = source (orderly m kept) (λ v. prec v m) u l x k in rw w.3 (stands.highest w.0 w.1)

  -- whoever runs does so at p
  pub runs_at : (u : ℕ) → u ∈ running m → Cprec m u p
  runs_at u r = subst (λ (x : Precedence). Cprec m u x) (≼_total.antisymmetric r.at p (capped u r.among.0 r.at r.value) over) r.value
    where
      lead : (t : ℕ) × (t ∈ ready m) × Reach (children (wq m)) th t
      lead = leader (orderly m kept) th stands.live

      c : (x : Precedence) × Cprec m lead.0 x
      c = cprec_some (orderly m kept) (λ v. prec v m) lead.0

      -- th stands behind a ready thread, whose current precedence is thus at least p
      reached : p ≼ c.0
      reached = rw (← stands.own) ((cprec_current (wq m) (λ v. prec v m) lead.0 c.0 c.1).bound (prec th m) (⊎_elim (λ (e : th ≡ lead.0). inl (ap (λ (x : ℕ). prec x m) e)) (λ d. inr (th, d, refl)) lead.2))

      over : p ≼ r.at
      over = ≼_total.transitive p c.0 r.at reached (r.top.bound c.0 (lead.0, lead.1, c.1))

  -- Lemma 2: another thread that neither holds nor waits does not run
  pub idle_not_running : (u : ℕ) → u ≢ th → ¬ HoldsOrWaits m u → ¬ (u ∈ running m)
  idle_not_running u ne idle r = ne (prec_differs kept u th r.among.0 stands.live (sym own ∙ sym stands.own))
    where
      nobody : {v : ℕ} → ¬ Depends (children (wq m)) v u
      nobody (direct (x, w, h)) = idle (inl (x, h))
      nobody (through d (x, w, h)) = idle (inl (x, h))

      own : p ≡ prec u m
      own = ⊎_elim (λ (e : p ≡ prec u m). e) (λ w. absurd (nobody w.1)) (cprec_current (wq m) (λ v. prec v m) u p (runs_at u r)).among

  -- and after any event it still neither holds nor waits
  pub idle_stays : (u : ℕ) → u ≢ th → ¬ HoldsOrWaits m u → (e : Event) → Step m e → ¬ HoldsOrWaits (e ∷ m) u
  idle_stays u ne idle (Create x prio) k a = idle a
  idle_stays u ne idle (Exit x) k a = idle a
  idle_stays u ne idle (Set x prio) k a = idle a
  idle_stays u ne idle (P x cs) (request run chainless) a = let w = attached_in (P x cs ∷ m) u a in
      ⊎_elim {C = ⊥} (λ i. idle (in_attached m u w.0 i)) (λ (e : u ≡ x). idle_not_running u ne idle (rw e run)) (join_in (step_joins m x cs kept (request run chainless)) w.0 u w.1)
  idle_stays u ne idle («V» x cs next) k a = let w = attached_in («V» x cs next ∷ m) u a in idle (in_attached m u w.0 (pass_in (step_passes m x cs next kept k) w.0 u w.1))

  -- what is created or set meanwhile is lower, so th stands
  stamped_stands : (x prio : ℕ) → th ≢ x → prio ≤ p.0 → (u : ℕ) → (u ≢ x → u ∈ threads m) → prec u (Set x prio ∷ m) ≼ p
  stamped_stands x prio ne low u old = go (ℕ_discrete u x)
    where
      earlier : p.1 < length m
      earlier = let e = ap (λ (q : Precedence). q.1) stands.own in omega (arith, kept.timed th stands.live)

      at : (q : Precedence) → prec u (Set x prio ∷ m) ≡ q → q ≼ p → prec u (Set x prio ∷ m) ≼ p
      at q e = subst (λ (y : Precedence). y ≼ p) (sym e)

      go : Dec (u ≡ x) → prec u (Set x prio ∷ m) ≼ p
      go (yes e) = at (prio, length m) (ap (λ (v : ℕ). prec v (Set x prio ∷ m)) e ∙ stamped_prec m x prio) (newer_lower prio (length m) p low earlier)
      go (no n) = at (prec u m) (else_prec m x u prio n) (stands.highest u (old n))

  pub still_stands : (e : Event) → Step m e → Spares th p.0 e → Stands th p (e ∷ m)
  still_stands (Create x prio) (create dead) low = record {
    live = inr stands.live;
    own = else_prec m x th prio ne ∙ stands.own;
    highest = λ u l. stamped_stands x prio ne (omega (arith, low)) u (λ n. ⊎_elim (λ e. absurd (n e)) (λ k. k) l);
  }
    where
      ne : th ≢ x
      ne e = dead (rw e at stands.live)
  still_stands (Exit x) k ne = record { live = (stands.live, λ e. ne (sym e)); own = stands.own; highest = λ u l. stands.highest u l.0 }
  still_stands (Set x prio) k (ne, low) = record {
    live = stands.live;
    own = else_prec m x th prio (λ e. ne (sym e)) ∙ stands.own;
    highest = λ u l. stamped_stands x prio (λ e. ne (sym e)) (omega (arith, low)) u (λ n. l);
  }
  still_stands (P x cs) k ok = record { live = stands.live; own = stands.own; highest = stands.highest }
  still_stands («V» x cs next) k ok = record { live = stands.live; own = stands.own; highest = stands.highest }
