-- A table that agrees with a state says of it what the paper's definitions say. Assumes nothing.
use Prim.Native.Nat.{ℕ, ◌<◌}
use mathlib.Core.Path.{◌≡◌, sym, ap, ◌∙◌}
use mathlib.Core.Logic.{inl, inr, ◌↔◌}
use Rattle.protocol.specs.Sets.{SetOf, ◌∈◌, only, ◌∪◌, image, images, Highest, Names}
use Rattle.protocol.specs.Events.{Thread, Resource, State, threads, Precedence, prec, ◌≼◌}
use Rattle.protocol.specs.Graph.{Queues, Waits, dependants, Cprec}
use Rattle.protocol.specs.Schedule as paper
use Rattle.protocol.proofs.Order.{≼_total}
use Rattle.protocol.proofs.Highest.{max_map}
use Rattle.protocol.proofs.Graphs.{leads}
use Rattle.protocol.proofs.Current.{dependant_live}
use Rattle.protocol.proofs.Finite.{orderly}
use Rattle.table.specs.declared.Table.{Table}
use Rattle.table.specs.Table as table
use Rattle.table.proofs.Sound.Queues.{live_low}
use Rattle.demands.specs.Told.{Shows}
use Rattle.demands.proofs.Agrees.{Reached, ordered, same_queues}

-- own precedences that are the same for a thread and its dependants make the same current precedence
own_cprec : (q : Queues) (f g : Thread → Precedence) (th : Thread) → f th ≡ g th → ((u : Thread) → u ∈ dependants q th → f u ≡ g u) → (m : Precedence) → Cprec q f th m → Cprec q g th m
own_cprec q f g th e agree m = max_map ◌≼◌ ≼_total to from
  where
    to : (a : Precedence) → a ∈ (only (f th) ∪ image f (dependants q th)) → a ∈ (only (g th) ∪ image g (dependants q th))
    to a (inl i) = inl (i ∙ e)
    to a (inr (u, d, i)) = inr (u, d, i ∙ agree u d)

    from : (a : Precedence) → a ∈ (only (g th) ∪ image g (dependants q th)) → a ∈ (only (f th) ∪ image f (dependants q th))
    from a (inl i) = inl (i ∙ sym e)
    from a (inr (u, d, i)) = inr (u, d, i ∙ sym (agree u d))

-- the same threads with the same values have the same highest among them
pub highest_map : (R Q : Thread → Precedence → Type 0) (M N : SetOf Thread) → ((u : Thread) → (u ∈ M) ↔ (u ∈ N)) → ((u : Thread) → u ∈ M → (m : Precedence) → R u m ↔ Q u m) →
    (th : Thread) → th ∈ Highest ◌≼◌ R M → th ∈ Highest ◌≼◌ Q N
highest_map R Q M N same value th h = record {
  among = (same th).0 h.among;
  at = h.at;
  value = (value th h.among h.at).0 h.value;
  top = max_map ◌≼◌ ≼_total to from h.top;
}
  where
    to : (a : Precedence) → a ∈ images R M → a ∈ images Q N
    to a (u, i, r) = (u, (same u).0 i, (value u i a).0 r)

    from : (a : Precedence) → a ∈ images Q N → a ∈ images R M
    from a (u, i, r) = let j = (same u).1 i in (u, j, (value u j a).1 r)

module _ {t : Table} {s : State} (r : Reached t s) where
  -- who depends on a thread is live, so its own precedence agrees
  behind_own : (th u : Thread) → u ∈ dependants (paper.wq s) th → table.own t u ≡ prec u s
  behind_own th u d = r.agrees.own u (dependant_live (orderly s (ordered r)) (leads (paper.wq s) d))

  -- a live thread has the same current precedence
  pub same_cprec : (th : Thread) → th ∈ threads s → (m : Precedence) → table.Cprec t th m ↔ paper.Cprec s th m
  same_cprec th l m = (
    λ h. own_cprec (paper.wq s) (table.own t) (λ u. prec u s) th (r.agrees.own th l) (behind_own th) m (over.0 h),
    λ h. over.1 (own_cprec (paper.wq s) (λ u. prec u s) (table.own t) th (sym (r.agrees.own th l)) (λ u d. sym (behind_own th u d)) m h),
  )
    where
      over : Cprec (table.queues t) (table.own t) th m ↔ Cprec (paper.wq s) (table.own t) th m
      over = same_queues r (λ q. Cprec q (table.own t) th m)

  -- the same threads are ready
  same_ready : (th : Thread) → (th ∈ table.ready t) ↔ (th ∈ paper.ready s)
  same_ready th = let idle = same_queues r (λ q. (cs : Resource) → ¬ Waits q th cs) in ((λ w. ((r.agrees.live th).0 w.0, idle.0 w.1)), λ w. ((r.agrees.live th).1 w.0, idle.1 w.1))

  -- the same thread runs
  pub same_running : (th : Thread) → (th ∈ table.running t) ↔ (th ∈ paper.running s)
  same_running th = (
    highest_map (table.Cprec t) (paper.Cprec s) (table.ready t) (paper.ready s) same_ready (λ u w. same_cprec u ((r.agrees.live u).0 w.0)) th,
    highest_map (paper.Cprec s) (table.Cprec t) (paper.ready s) (table.ready t) (λ u. ((same_ready u).1, (same_ready u).0)) (λ u w m. let c = same_cprec u w.0 m in (c.1, c.0)) th,
  )

  -- who is named as running in the table is named as running in the state
  pub names_running : (x : ℕ) → Names 32 (table.running t) x → Names 32 (paper.running s) x
  names_running x (inl (low, run)) = inl (low, (same_running x).0 run)
  names_running x (inr (e, nobody)) = inr (e, λ th run. nobody th ((same_running th).1 run))

  -- there are no live threads but the 32
  pub ids : (th : Thread) → th ∈ threads s → th < 32
  ids th l = live_low t r.right.0 th ((r.agrees.live th).1 l)

  -- a sound table shows the state
  pub shows : Shows t s
  shows = record {
    clock_is = r.agrees.clock;
    live_are = r.agrees.live;
    own_is = r.agrees.own;
    queues_are = λ cs. ap (λ (q : Queues). q cs) r.agrees.queues;
    current_is = λ th l. (same_cprec th l (table.stored t th)).0 (r.right.1.current th ((r.agrees.live th).1 l));
    requests_are = λ th l. (r.agrees.totals th l).0;
    releases_are = λ th l. (r.agrees.totals th l).1;
  }
