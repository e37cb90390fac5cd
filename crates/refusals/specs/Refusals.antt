-- The refusals and their order as tests that compute: one list in three parts. Assumes nothing.
use Rattle.std.specs.Prelude.{ℕ, Bool, cond, not, ◌&&◌, ◌||◌, List, [], ◌∷◌, ◌++◌, eqb, ltb, leb}
use Rattle.protocol.specs.Events.{Thread, Resource}
use Rattle.table.specs.declared.Table.{Table}
use Rattle.table.specs.Compute.{all_below, is_live, holder, depends, runner, is_sound}
use Rattle.refusals.specs.declared.Record.{Record}

-- a refusal's number, and whether it applies
pub record Refusal : Type 0 where
  pub number : ℕ
  pub applies : Bool

-- the lowest number that applies, 0 if none does
unfoldable pub lowest : List Refusal → ℕ
lowest [] = 0
lowest (r ∷ rs) = let n = lowest rs in cond r.applies r.number n

-- refusal 1, which every call shares: the table isn't sound
unfoldable pub unsound : Table → Refusal
unsound t = record { number = 1; applies = not (is_sound t) }

-- P or V with a resource above 15; Exit with an argument other than 0; fourth byte not 0
unfoldable pub malformed : Record → Bool
malformed e = ((eqb e.kind 4 || eqb e.kind 5) && ltb 15 e.argument) || ((eqb e.kind 2 && not (eqb e.argument 0)) || not (eqb e.zero 0))

-- a chain leads from the resource to the requester; holding it already is such a chain
unfoldable pub leads : Table → Resource → Thread → Bool
leads t cs th = eqb (holder t cs) th || depends 32 t (holder t cs) th

-- th holds some resource
unfoldable pub holds_any : Table → Thread → Bool
holds_any t th = not (all_below 16 (λ cs. not (eqb (holder t cs) th)))

-- 2 to 4: by the record alone
unfoldable pub by_record : Record → List Refusal
by_record e =
    record { number = 2; applies = not (leb 1 e.kind && leb e.kind 5) }
    ∷ (record { number = 3; applies = ltb 31 e.thread }
    ∷ (record { number = 4; applies = malformed e }
    ∷ []))

-- 5 to 8: by the clock and the thread
unfoldable pub by_thread : Table → Record → List Refusal
by_thread t e =
    record { number = 5; applies = eqb t.clock 65535 }
    ∷ (record { number = 6; applies = eqb e.kind 1 && is_live t e.thread }
    ∷ (record { number = 7; applies = not (eqb e.kind 1) && not (is_live t e.thread) }
    ∷ (record { number = 8; applies = not (eqb e.kind 1) && (is_live t e.thread && not (eqb (runner t) e.thread)) }
    ∷ [])))

-- 9 to 11: by the queues
unfoldable pub by_queues : Table → Record → List Refusal
by_queues t e =
    record { number = 9; applies = eqb e.kind 4 && leads t e.argument e.thread }
    ∷ (record { number = 10; applies = eqb e.kind 5 && not (eqb (holder t e.argument) e.thread) }
    ∷ (record { number = 11; applies = eqb e.kind 2 && holds_any t e.thread }
    ∷ []))

-- the refusals, in their order
unfoldable pub refusals : Table → Record → List Refusal
refusals t e = unsound t ∷ (by_record e ++ (by_thread t e ++ by_queues t e))
