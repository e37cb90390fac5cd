-- The places of one queue, which an event writes anew. Assumes nothing.
use Rattle.std.specs.Prelude.{ℕ, ◌+◌, ◌*◌, ◌-◌, ◌≤◌, ◌<◌, ◌≡◌, List, ◌++◌, length, take, drop, replicate}
use Rattle.protocol.specs.Sets.{Distinct}
use Rattle.table.specs.Code.Places.{entry}

-- a queue of n, not empty: its row lies within the places, its entries differ, and the places behind it are zero
pub record Row (queue : List ℕ) (r n : ℕ) : Type 0 where
  pub size : length queue ≡ 512
  pub resource : r < 16
  pub some : 1 ≤ n
  pub short : n ≤ 32
  pub differ : Distinct (take n (drop (r * 32) queue))
  pub spare : (i : ℕ) → n ≤ i → i < 32 → entry queue r i ≡ 0

-- what comes behind q: zeros to the end of its row, and what stood after the row
abbrev pub behind : List ℕ → ℕ → List ℕ → List ℕ
behind xs a q = replicate (32 - length q) 0 ++ drop (a + 32) xs

-- the row from a on becomes q, and zeros behind it
abbrev pub rewritten : List ℕ → ℕ → List ℕ → List ℕ
rewritten xs a q = take a xs ++ (q ++ behind xs a q)
