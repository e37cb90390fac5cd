-- Sets as the paper uses them: a set says of each thing whether it is in it. Assumes nothing.
use Rattle.std.specs.Prelude.{ℕ, ◌<◌, ◌≡◌, ◌⊎◌, ◌↔◌, List, [], ◌∷◌, length}

infix 4 ◌∈◌
infixr 6 ◌∪◌
infixl 6 ◌∖◌
-- a set of things of A
abbrev pub SetOf : Type 0 → Type 1
SetOf A = A → Type 0

-- a is in M
abbrev pub ◌∈◌ : {A : Type 0} → A → SetOf A → Type 0
a ∈ M = M a

-- the empty set
abbrev pub ∅ : {A : Type 0} → SetOf A
∅ = λ a. ⊥

-- {a}: a alone
abbrev pub only : {A : Type 0} → A → SetOf A
only a = λ b. b ≡ a

-- what is in M or in N
abbrev pub ◌∪◌ : {A : Type 0} → SetOf A → SetOf A → SetOf A
M ∪ N = λ a. (a ∈ M) ⊎ (a ∈ N)

-- what is in M and not in N
abbrev pub ◌∖◌ : {A : Type 0} → SetOf A → SetOf A → SetOf A
M ∖ N = λ a. (a ∈ M) × ¬ (a ∈ N)

-- { f a | a ∈ M }: what f gives for the things in M
abbrev pub image : {A B : Type 0} → (A → B) → SetOf A → SetOf B
image {A} f M = λ b. (a : A) × (a ∈ M) × (b ≡ f a)

-- R ' M: the same, for an R that relates each a to its b
abbrev pub images : {A B : Type 0} → (A → B → Type 0) → SetOf A → SetOf B
images {A} R M = λ b. (a : A) × (a ∈ M) × R a b

-- set: what stands in a list
abbrev pub set : {A : Type 0} → List A → SetOf A
set [] = ∅
set (x ∷ xs) = only x ∪ set xs

-- hd: the head of a list; the empty list has none
abbrev pub hd : {A : Type 0} → List A → SetOf A
hd [] = ∅
hd (x ∷ xs) = only x

-- distinct: nothing stands in the list twice
abbrev pub Distinct : {A : Type 0} → List A → Type 0
Distinct [] = Unit {0}
Distinct (x ∷ xs) = (¬ (x ∈ set xs)) × Distinct xs

-- m = Max M: m is in M, and all that is in M is at most m
pub record Max {A : Type 0} (at_most : A → A → Type 0) (M : SetOf A) (m : A) : Type 0 where
  pub among : m ∈ M
  pub bound : (a : A) → a ∈ M → at_most a m

-- { a ∈ M | R a = Max (R ' M) }: the things in M that R relates to the highest b
pub record Highest {A B : Type 0} (at_most : B → B → Type 0) (R : A → B → Type 0) (M : SetOf A) (a : A) : Type 0 where
  pub among : a ∈ M
  pub at : B
  pub value : R a at
  pub top : Max at_most (images R M) at

-- n names what is in M, of numbers below N: it is in M, or it is N and nothing is
abbrev pub Names : ℕ → SetOf ℕ → ℕ → Type 0
Names N M n = ((n < N) × (n ∈ M)) ⊎ ((n ≡ N) × ((a : ℕ) → ¬ (a ∈ M)))

-- n is the number of what is in M: a list of that length has each of them once, and no other
pub record Number (M : SetOf ℕ) (n : ℕ) : Type 0 where
  pub each : List ℕ
  pub once : Distinct each
  pub exactly : (a : ℕ) → (a ∈ set each) ↔ (a ∈ M)
  pub size : length each ≡ n
