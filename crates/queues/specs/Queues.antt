-- The queues, place by place. Assumes nothing.
use Rattle.std.specs.Prelude.{ℕ, ◌+◌, ◌≤◌, ◌<◌, ◌≡◌, ◌≢◌, ◌⊎◌, List, slice_set}
use Rattle.protocol.specs.Sets.{Number}
use Rattle.table.specs.Table.{at}
use Rattle.table.specs.Code.Places.{entry}

-- x stands among the places 1 to n - 1 of the queue of r
abbrev pub Stands : List ℕ → ℕ → ℕ → ℕ → Type 0
Stands queue r n x = (i : ℕ) × (1 ≤ i) × (i < n) × (entry queue r i ≡ x)

-- x is among the first n entries of the queue of r, as its holder or waiting
abbrev pub Entered : List ℕ → ℕ → ℕ → ℕ → Type 0
Entered queue r n x = (i : ℕ) × (i < n) × (entry queue r i ≡ x)

-- the first n entries of the queue of r are right, where `before` has what each thread waits for in the queues before it (16: nothing)
pub record RowRight (queue live before : List ℕ) (r n : ℕ) : Type 0 where
  pub live_entries : (i : ℕ) → i < n → at live (entry queue r i) ≡ 1
  pub not_head : (i : ℕ) → 1 ≤ i → i < n → entry queue r i ≢ entry queue r 0
  pub different : (i j : ℕ) → 1 ≤ i → i < j → j < n → entry queue r i ≢ entry queue r j
  pub fresh : (i : ℕ) → 1 ≤ i → i < n → at before (entry queue r i) ≡ 16

-- `after` is `before` with r at those that wait among the first n entries of its queue
pub record Noted (queue before after : List ℕ) (r n : ℕ) : Type 0 where
  pub noted : (x : ℕ) → Stands queue r n x → at after x ≡ r
  pub kept : (x : ℕ) → ¬ Stands queue r n x → at after x ≡ at before x

-- `after` is `before` with the first of the n entries of the queue of r as its holder, where it has any
abbrev pub Headed : List ℕ → List ℕ → List ℕ → ℕ → ℕ → Type 0
Headed queue before after r n = ((0 < n) × (after ≡ slice_set before r (entry queue r 0))) ⊎ ((n ≤ 0) × (after ≡ before))

-- `after` is `before` with 1 more at those who are among the first n entries of the queue of r
pub record Counted (queue before after : List ℕ) (r n : ℕ) : Type 0 where
  pub counted : (x : ℕ) → Entered queue r n x → at after x ≡ at before x + 1
  pub kept : (x : ℕ) → ¬ Entered queue r n x → at after x ≡ at before x

-- the queues of the first R resources are right
pub record RowsRight (queue lengths live : List ℕ) (R : ℕ) : Type 0 where
  pub lengths_right : (r : ℕ) → r < R → at lengths r ≤ 32
  pub live_entries : (r i : ℕ) → r < R → i < at lengths r → at live (entry queue r i) ≡ 1
  pub spare_zero : (r i : ℕ) → r < R → at lengths r ≤ i → i < 32 → entry queue r i ≡ 0
  pub not_head : (r i : ℕ) → r < R → 1 ≤ i → i < at lengths r → entry queue r i ≢ entry queue r 0
  pub different : (r i j : ℕ) → r < R → 1 ≤ i → i < j → j < at lengths r → entry queue r i ≢ entry queue r j
  pub one_queue : (r q x : ℕ) → r < R → q < R → Stands queue r (at lengths r) x → Stands queue q (at lengths q) x → r ≡ q

-- what the queues of the first R resources say: `waits` has what each thread waits for in them (16: nothing), `holders` who holds each
-- of them (32: nobody), `standing` in how many of them each thread stands
pub record Surveyed (queue lengths : List ℕ) (R : ℕ) (waits holders standing : List ℕ) : Type 0 where
  pub waiting : (r x : ℕ) → r < R → Stands queue r (at lengths r) x → at waits x ≡ r
  pub free : (x : ℕ) → x < 32 → ((r : ℕ) → r < R → ¬ Stands queue r (at lengths r) x) → at waits x ≡ 16
  pub held : (r : ℕ) → r < R → 0 < at lengths r → at holders r ≡ entry queue r 0
  pub unheld : (r : ℕ) → r < 16 → (r < R → at lengths r ≡ 0) → at holders r ≡ 32
  pub stands : (x : ℕ) → x < 32 → Number (λ r. (r < R) × Entered queue r (at lengths r) x) (at standing x)
