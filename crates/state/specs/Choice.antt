-- Steps 1 and 2 of a tick: who wants it, who is chosen.
use Rattle.std.specs.Prelude.{Bool, true, false, List, [], ◌∷◌, ℕ, suc, ltb, eqb, Option, Some, None}
use Rattle.small.specs.Small.{pick, both}
use Rattle.table.specs.Kind.{idling_kind, deferrable_kind, polling_kind}
use Rattle.table.specs.Limits.{entries}
use Rattle.table.specs.declared.Server.{Server}
use Rattle.state.specs.State.{entry_at}
use Rattle.state.specs.declared.Load.{Load}
use Rattle.state.specs.declared.Entry.{Entry}
use Rattle.state.specs.declared.State.{State}
use Rattle.state.specs.declared.Choice.{Choice}
use Rattle.state.specs.declared.Choice.TheVariants.{Idle, Burning, Running}

-- a place of the table, where the number is one
abbrev pub place_in : ℕ → Option ℕ
place_in k = pick (ltb k entries) (Some k) None

abbrev pub pendingb : Load → Bool
pendingb l = ltb 0 l.pending.0

-- "the first task with pending work": its place, or the number of loads where there is none
abbrev pub first_pending : List Load → ℕ
first_pending [] = 0
first_pending (l ∷ ls) = pick (pendingb l) 0 (suc (first_pending ls))

-- work is pending in some task
abbrev pub some_pending : List Load → Bool
some_pending [] = false
some_pending (l ∷ ls) = pick (pendingb l) true (some_pending ls)

-- deferrable or polling: such a server wants a tick where work is pending, and no other
abbrev pub worksb : ℕ → Bool
worksb kind = pick (eqb kind deferrable_kind) true (eqb kind polling_kind)

-- "A server wants a tick if it is idling (kind 1), or deferrable (kind 2) with work pending in some task"; "Kind 3 wants a tick as kind 2 does" (document
-- 02, #101)
unfoldable pub wantsb : ℕ → Entry → Bool
wantsb kind e = pick (eqb kind idling_kind) true (both (worksb kind) (some_pending e.loads))

-- it wants and has budget
abbrev pub readyb : ℕ → Entry → Bool
readyb kind e = both (wantsb kind e) (ltb 0 e.budget.0)

-- "The highest server that wants and has budget is chosen": its place, or the number of entries where there is none
abbrev pub chosen_from : List Server → List Entry → ℕ
chosen_from [] es = 0
chosen_from (s ∷ ss) [] = 0
chosen_from (s ∷ ss) (e ∷ es) = pick (readyb s.kind e) 0 (suc (chosen_from ss es))

unfoldable pub chosen_of : State → ℕ
chosen_of s = chosen_from s.table.servers s.entries

-- "In it, the first task with pending work is chosen. An idling server without work burns the tick." None: idle
abbrev pub choice_by : ℕ → ℕ → Choice
choice_by i j = pick (ltb i entries) (pick (ltb j entries) (Running i j) (Burning i)) Idle

unfoldable pub choice_of : State → Choice
choice_of s = choice_by (chosen_of s) (first_pending (entry_at s (chosen_of s)).loads)

-- The document's values of each case. "A server runs on the ticks that choose it, burned ones included."
abbrev pub servesb : Choice → ℕ → Bool
servesb Idle i = false
servesb (Burning k) i = eqb k i
servesb (Running k j) i = eqb k i

-- "`-` for the task means burning; two mean idle": 0 idle, 1 burning, 2 running
abbrev pub choice_number : Choice → ℕ
choice_number Idle = 0
choice_number (Burning k) = 1
choice_number (Running k j) = 2
