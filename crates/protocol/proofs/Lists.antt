-- A queue as a list: its head holds, the others wait; what joining at the end and a release make of it. Assumes nothing.
use Prim.Native.Nat.{ℕ, suc}
use mathlib.Core.Path.{◌≡◌, refl, sym, ap, ◌∙◌}
use mathlib.Core.Bool.{Bool, true, false, cond}
use mathlib.Core.Option.{Option, none, some}
use mathlib.Core.List.{List, [], ◌∷◌, ◌++◌}
use mathlib.Core.Logic.Dec
use mathlib.Core.Logic.{◌≢◌, ◌⊎◌, inl, inr, ⊎_elim, ◌↔◌}
use native.Mathlib.Decide.{ℕ_discrete, map_dec}
use lib.Dec.{eqb}
use lib.ListN.{length}
use borrow.Author.Tests.{eqb-true, eqb-false, eq-eqb, ne_eqb}
use Rattle.protocol.specs.Sets.{◌∈◌, set, hd, Distinct}
use Rattle.protocol.specs.Schedule.{update, without, release}
use Rattle.protocol.specs.Graph.{Queues}
use Rattle.protocol.proofs.Decide.{dec_either}

abbrev pub Holding : List ℕ → ℕ → Type 0
Holding q t = (t ∈ set q) × (t ∈ hd q)

abbrev pub Waiting : List ℕ → ℕ → Type 0
Waiting q t = (t ∈ set q) × ¬ (t ∈ hd q)

-- what holds of a where x is y, and of b where it is not, holds of what the test of equality picks
pub if-equal {ℓ} : {A : Type ℓ} (x y : ℕ) (P : A → Type 0) (a b : A) → (x ≡ y → P a) → (x ≢ y → P b) → P (cond (eqb x y) a b)
if-equal x y P a b f g = go (eqb x y) refl
  where
    go : (t : Bool) → eqb x y ≡ t → P (cond t a b)
    go true e = f (eqb-true x y e)
    go false e = g (eqb-false x y e)

pub dec_in : (t : ℕ) (q : List ℕ) → Dec (t ∈ set q)
dec_in t [] = no (λ b. b)
dec_in t (x ∷ xs) = dec_either (ℕ_discrete t x) (dec_in t xs)

pub dec_hd : (t : ℕ) (q : List ℕ) → Dec (t ∈ hd q)
dec_hd t [] = no (λ b. b)
dec_hd t (x ∷ xs) = ℕ_discrete t x

pub dec_waits : (t : ℕ) (q : List ℕ) → Dec (Waiting q t)
dec_waits t q = Dec.and (dec_in t q) (Dec.not (dec_hd t q))

-- whether one of the list satisfies Q
pub dec_among : (Q : ℕ → Type 0) → ((x : ℕ) → Dec (Q x)) → (l : List ℕ) → Dec ((x : ℕ) × (x ∈ set l) × Q x)
dec_among Q dec [] = no (λ w. w.1)
dec_among Q dec (x ∷ xs) = map_dec (⊎_elim (λ q. (x, inl refl, q)) (λ w. (w.0, inr w.1, w.2))) (λ w. ⊎_elim (λ e. inl (rw e at w.2)) (λ i. inr (w.0, i, w.2)) w.1) (dec_either (dec x) (dec_among Q dec xs))

pub hd_one : (q : List ℕ) (t v : ℕ) → t ∈ hd q → v ∈ hd q → t ≡ v
hd_one [] t v h k = absurd h
hd_one (x ∷ xs) t v h k = h ∙ sym k

-- whoever stands in a queue holds or waits
pub in_cases : (q : List ℕ) (t : ℕ) → t ∈ set q → Holding q t ⊎ Waiting q t
in_cases q t i = go (dec_hd t q)
  where
    go : Dec (t ∈ hd q) → Holding q t ⊎ Waiting q t
    go (yes h) = inl (i, h)
    go (no n) = inr (i, n)

-- where someone stands in a queue, someone holds
pub in_held : (q : List ℕ) (t : ℕ) → t ∈ set q → (h : ℕ) × Holding q h
in_held [] t i = absurd i
in_held (x ∷ xs) t i = (x, (inl refl, refl))

-- whoever waits stands behind the head
pub waiting_behind : (x : ℕ) (xs : List ℕ) (t : ℕ) → Waiting (x ∷ xs) t → t ∈ set xs
waiting_behind x xs t (inl e, n) = absurd (n e)
waiting_behind x xs t (inr i, n) = i

pub behind_waiting : (x : ℕ) (xs : List ℕ) (t : ℕ) → Distinct (x ∷ xs) → t ∈ set xs → Waiting (x ∷ xs) t
behind_waiting x xs t d i = (inr i, λ e. d.0 (rw e at i))

-- joining at the end

pub in_join : (q : List ℕ) (t u : ℕ) → (u ∈ set (q ++ (t ∷ []))) ↔ ((u ∈ set q) ⊎ (u ≡ t))
in_join [] t u = (⊎_elim inr absurd, ⊎_elim absurd inl)
in_join (x ∷ xs) t u = (⊎_elim (λ e. inl (inl e)) (λ i. ⊎_elim (λ j. inl (inr j)) inr ((in_join xs t u).0 i)), ⊎_elim (⊎_elim inl (λ j. inr ((in_join xs t u).1 (inl j)))) (λ e. inr ((in_join xs t u).1 (inr e))))

pub distinct_join : (q : List ℕ) (t : ℕ) → Distinct q → ¬ (t ∈ set q) → Distinct (q ++ (t ∷ []))
distinct_join [] t d n = ((λ b. b), tt)
distinct_join (x ∷ xs) t d n = ((λ i. ⊎_elim d.0 (λ (e : x ≡ t). n (inl (sym e))) ((in_join xs t x).0 i)), distinct_join xs t d.1 (λ i. n (inr i)))

pub holding_stays : (q : List ℕ) (t u : ℕ) → Holding q u → Holding (q ++ (t ∷ [])) u
holding_stays [] t u h = absurd h.0
holding_stays (x ∷ xs) t u h = (inl h.1, h.1)

pub waiting_stays : (q : List ℕ) (t u : ℕ) → Waiting q u → Waiting (q ++ (t ∷ [])) u
waiting_stays [] t u w = absurd w.0
waiting_stays (x ∷ xs) t u w = ((in_join (x ∷ xs) t u).1 (inl w.0), w.1)

-- who joins an empty queue holds
pub holding_join : (q : List ℕ) (t u : ℕ) → Holding (q ++ (t ∷ [])) u → Holding q u ⊎ ((q ≡ []) × (u ≡ t))
holding_join [] t u h = inr (refl, h.1)
holding_join (x ∷ xs) t u h = inl (inl h.1, h.1)

-- who joins another waits
pub waiting_join : (q : List ℕ) (t u : ℕ) → Waiting (q ++ (t ∷ [])) u → Waiting q u ⊎ (((h : ℕ) × Holding q h) × (u ≡ t))
waiting_join [] t u w = absurd (⊎_elim w.1 (λ b. b) w.0)
waiting_join (x ∷ xs) t u w = ⊎_elim (λ i. inl (i, w.1)) (λ e. inr ((x, (inl refl, refl)), e)) ((in_join (x ∷ xs) t u).0 w.0)

pub joined_waits : (q : List ℕ) (t v : ℕ) → Holding q v → ¬ (t ∈ set q) → Waiting (q ++ (t ∷ [])) t
joined_waits [] t v h n = absurd h.0
joined_waits (x ∷ xs) t v h n = ((in_join (x ∷ xs) t t).1 (inr refl), λ e. n (inl e))

-- a release

pub without_in : (b : ℕ) (q : List ℕ) (u : ℕ) → u ∈ set q → u ≢ b → u ∈ set (without b q)
without_in b [] u i n = i
without_in b (x ∷ xs) u i n = if-equal x b (λ l. u ∈ set l) _ _ (λ e. ⊎_elim (λ (p : u ≡ x). absurd (n (p ∙ e))) (λ j. j) i) (λ m. ⊎_elim inl (λ j. inr (without_in b xs u j n)) i)

pub in_without : (b : ℕ) (q : List ℕ) (u : ℕ) → u ∈ set (without b q) → u ∈ set q
in_without b [] u i = i
in_without b (x ∷ xs) u i = if-equal x b (λ l. u ∈ set l → u ∈ set (x ∷ xs)) _ _ (λ e j. inr j) (λ n j. ⊎_elim inl (λ k. inr (in_without b xs u k)) j) i

pub without_gone : (b : ℕ) (q : List ℕ) → Distinct q → ¬ (b ∈ set (without b q))
without_gone b [] d i = i
without_gone b (x ∷ xs) d i = if-equal x b (λ l. b ∈ set l → ⊥) _ _ (λ e j. d.0 (rw e j)) (λ n j. ⊎_elim (λ p. n (sym p)) (without_gone b xs d.1) j) i

pub without_distinct : (b : ℕ) (q : List ℕ) → Distinct q → Distinct (without b q)
without_distinct b [] d = d
without_distinct b (x ∷ xs) d = if-equal x b Distinct _ _ (λ e. d.1) (λ n. ((λ i. d.0 (in_without b xs x i)), without_distinct b xs d.1))

-- it is shorter by one, where b stood in it
pub without_shorter : (b : ℕ) (q : List ℕ) → b ∈ set q → length q ≡ suc (length (without b q))
without_shorter b [] i = absurd i
without_shorter b (x ∷ xs) i = if-equal x b (λ l. suc (length xs) ≡ suc (length l)) _ _ (λ e. refl) (λ n. ⊎_elim (λ (p : b ≡ x). absurd (n (sym p))) (λ j. ap suc (without_shorter b xs j)) i)

-- who may follow the head of q: a waiter, or nobody where nobody waits
abbrev pub Follows : List ℕ → Option ℕ → Type 0
Follows q (some b) = Waiting q b
Follows q none = (t : ℕ) → ¬ Waiting q t

-- afterwards just those stand in the queue who waited, each once
pub record Released (q q' : List ℕ) : Type 0 where
  pub once : Distinct q'
  pub waited : (u : ℕ) → (u ∈ set q') ↔ Waiting q u

pub released : (q : List ℕ) (next : Option ℕ) → Distinct q → Follows q next → Released q (release q next)
released [] next d f = record { once = tt; waited = λ u. (absurd, λ w. w.0) }
released (x ∷ xs) none d f = record { once = d.1; waited = λ u. (behind_waiting x xs u d, waiting_behind x xs u) }
released (x ∷ xs) (some b) d f = record {
  once = (without_gone b xs d.1, without_distinct b xs d.1);
  waited = λ u. (⊎_elim (λ e. rw e f) (λ i. behind_waiting x xs u d (in_without b xs u i)), λ w. go u (waiting_behind x xs u w) (ℕ_discrete u b));
}
  where
    go : (u : ℕ) → u ∈ set xs → Dec (u ≡ b) → u ∈ set (b ∷ without b xs)
    go u i (yes e) = inl e
    go u i (no n) = inr (without_in b xs u i n)

-- who is named to follow holds the resource afterwards
pub heir_holds : (q : List ℕ) (b : ℕ) → Waiting q b → Holding (release q (some b)) b
heir_holds [] b w = absurd w.0
heir_holds (x ∷ xs) b w = (inl refl, refl)

-- the queues after an update, one at a time
pub update_cases : (wq : Queues) (r : ℕ) (q : List ℕ) (P : ℕ → List ℕ → Type 0) → P r q → ((x : ℕ) → x ≢ r → P x (wq x)) → (x : ℕ) → P x (update wq r q x)
update_cases wq r q P at else x = if-equal x r (P x) q (wq x) (λ e. rw e at) (else x)

pub update_there : (wq : Queues) (r : ℕ) (q : List ℕ) → update wq r q r ≡ q
update_there wq r q = rw (eq-eqb r r refl)

pub update_else : (wq : Queues) (r : ℕ) (q : List ℕ) (x : ℕ) → x ≢ r → update wq r q x ≡ wq x
update_else wq r q x n = rw (ne_eqb x r n)
