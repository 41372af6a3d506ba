-- What the private functions give. No promise is stated by these: they stand between the code's loops and the definitions.
use Rattle.std.specs.Prelude.{◌≡◌, Bool, true, false, not, List, [], ◌∷◌, ◌++◌, ℕ, zero, suc, ◌+◌, ◌-◌, ◌*◌, ◌≤◌, ◌<◌, leb, ltb, eqb, take, drop, get_or, length, Option, Some, None}
use Rattle.std.proofs.lemmas.List.Edits.{sets}
use lib.ListN.{set}
use Rattle.small.specs.Small.{pick, both}
use Rattle.queue.specs.Limits.{max_gap, cell_count, filler}
use Rattle.queue.specs.Row.{cell, cells_of, events_from, fillers_for, cells_for}
use Rattle.queue.specs.Sound.{hasb, distinctb}
use Rattle.queue.specs.Calls.{distance_of}
use Rattle.queue.specs.Steps.{first_cell, regrouped, place_cells, again_step}
use Rattle.queue.specs.declared.Cell.{Cell}
use Rattle.queue.specs.declared.Queue.{Queue}
use Rattle.queue.specs.declared.Walk.{Walk}
use Rattle.queue.specs.declared.Found.{Found}
use Rattle.queue.specs.declared.Chain.{Chain}
use Rattle.queue.specs.declared.Rest.{Rest}
use Rattle.queue.specs.declared.steps.Place.{Place}

-- a test of the normal form, cell by cell; the flag says that a filler stands before
abbrev pub spacedb : ℕ → Bool → Cell → Bool
spacedb M true c = eqb c.gap M
spacedb M false c = both (pick (eqb c.id filler) (leb 1 c.gap) true) (leb c.gap M)

abbrev pub normb : ℕ → Bool → List Cell → Bool
normb M b [] = not b
normb M b (c ∷ cs) = both (spacedb M b c) (normb M (eqb c.id filler) cs)

-- the sum of the gaps: the distance of the last cell
abbrev pub gaps_of : List Cell → ℕ
gaps_of [] = 0
gaps_of (c ∷ cs) = c.gap + gaps_of cs

-- soundness of a row, in one pass
unfoldable pub rowb : ℕ → ℕ → List Cell → Bool
rowb M D cs = both (normb M false cs) (both (distinctb (events_from 0 cs)) (leb (gaps_of cs) D))

-- the sum of the ids and the gaps
abbrev pub sum_of : List Cell → ℕ
sum_of [] = 0
sum_of (c ∷ cs) = c.id + c.gap + sum_of cs

-- the cells from a place up to another
abbrev pub part : ℕ → ℕ → List Cell → List Cell
part from to cs = take (to - from) (drop from cs)

-- each cell up to an event has the largest gap
abbrev pub fullb : ℕ → List Cell → Bool
fullb M [] = false
fullb M (c ∷ cs) = pick (eqb c.gap M) (pick (eqb c.id filler) (fullb M cs) true) false

-- an event with this gap before these cells is one cell, and needs no other change of theirs than that their first gap falls
abbrev pub plainb : ℕ → ℕ → List Cell → Bool
plainb M gap [] = leb gap M
plainb M gap (c ∷ cs) = pick (eqb c.id filler) (fullb M cs) true

-- the walk past one cell: how many cells are passed, the place behind the last event among them, its distance, and the distance of the last cell
abbrev pub walk : ℕ → ℕ → ℕ → ℕ → Walk
walk next start last at = record { next = next; start = start; last = last; at = at }

unfoldable pub pass_of : Walk → Cell → Walk
pass_of w c =
    pick (eqb c.id filler)
    (walk (w.next + 1) w.start w.last (w.at + c.gap))
    (walk (w.next + 1) (w.next + 1) (w.at + c.gap) (w.at + c.gap))

-- a walk's numbers: they stay in the row, and its distances are sums of its gaps
pub record Walked (cs : List Cell) (w : Walk) : Type 0 where
  pub start_by : w.start ≤ w.next
  pub in_row : w.next ≤ length cs
  pub last_by : w.last ≤ w.at
  pub event : w.start ≡ w.next → w.last ≡ w.at
  pub small : w.at ≤ max_gap * w.next

-- the walk past every cell that is at most d away
pub record Passed (cs : List Cell) (d : ℕ) (w : Walk) : Type 0 where
  pub walked : Walked cs w
  pub near : w.at ≤ d
  pub beyond : w.next < length cs → let c = get_or cs w.next (cell 0 0) in (d < w.at + c.gap) × (c.gap ≤ max_gap)
  pub row : (M id : ℕ) → place_cells M id d cs ≡ take w.start cs ++ (cells_for M (d - w.last) id ++ regrouped M w.at d (drop w.next cs))

-- the cells of an event with a gap g: how many, and the gap of the first
unfoldable pub chain_for : ℕ → ℕ → ℕ → Chain
chain_for M g id = record { id = id; cells = fillers_for M g + 1; gap = g - fillers_for M g * M }

-- a cell of a chain with so many behind it: the last is the event
abbrev pub link_of : ℕ → ℕ → ℕ → Cell
link_of behind id gap = cell (pick (eqb behind 0) id filler) gap

-- k cells of a chain: the first has gap r, and each other gap M
abbrev pub links : ℕ → ℕ → ℕ → ℕ → List Cell
links M zero id r = []
links M (suc k) id r = link_of k id r ∷ links M k id M

abbrev pub links_of : ℕ → Chain → List Cell
links_of M c = links M c.cells c.id c.gap

-- what is left of the cells from a place on, which are counted from t, when they are counted from u
pub record Regrouped (cs : List Cell) (from t u : ℕ) (r : Rest) : Type 0 where
  pub in_row : r.behind ≤ length cs
  pub few : r.then.cells ≤ 65538
  pub row : regrouped max_gap t u (drop from cs) ≡ links_of max_gap r.then ++ drop r.behind cs

-- the queue with this array and this length
abbrev pub queue_with : List Cell → ℕ → Queue
queue_with cells len = record { cells = cells; len = len }

-- a chain from a place on, and then what is left behind it
unfoldable pub spliced : ℕ → Chain → Rest → Queue → Queue
spliced start own rest q =
    queue_with (sets q.cells start (links_of max_gap own ++ (links_of max_gap rest.then ++ drop rest.behind (cells_of q)))) (start + own.cells + rest.then.cells + (q.len - rest.behind))

-- the cells without an event, as `place_from` has them with one more
abbrev pub remove_from : ℕ → ℕ → ℕ → ℕ → List Cell → List Cell → List Cell
remove_from M id u t held [] = held
remove_from M id u t held (c ∷ cs) =
    pick (eqb c.id filler)
    (remove_from M id u (t + c.gap) (held ++ (c ∷ [])) cs)
    (pick (eqb c.id id)
    (regrouped M (t + c.gap) u cs)
    (held ++ (c ∷ remove_from M id (t + c.gap) (t + c.gap) [] cs)))

abbrev pub remove_cells : ℕ → ℕ → List Cell → List Cell
remove_cells M id cs = remove_from M id 0 0 [] cs

-- where an event stands: the place behind the event before it and that one's distance, the place behind it and its own
pub record Standing (cs : List Cell) (id : ℕ) (f : Found) : Type 0 where
  pub there : hasb id (events_from 0 cs) ≡ true
  pub start_by : f.start ≤ f.behind
  pub in_row : f.behind ≤ length cs
  pub small : f.at ≤ max_gap * f.behind
  pub away : f.at ≡ distance_of id (events_from 0 cs)
  pub row : (M : ℕ) → remove_cells M id cs ≡ take f.start cs ++ regrouped M f.at f.last (drop f.behind cs)

abbrev pub Sought : List Cell → ℕ → Option Found → Type 0
Sought cs id (Some f) = Standing cs id f
Sought cs id None = hasb id (events_from 0 cs) ≡ false

-- every distance grows by 1: the first gap grows, or a filler comes before a gap that is full
abbrev pub push_cells : ℕ → List Cell → List Cell
push_cells M [] = []
push_cells M (c ∷ cs) = pick (eqb c.gap M) (cell filler 1 ∷ c ∷ cs) (cell c.id (c.gap + 1) ∷ cs)

-- each reach above 0, from the id i on, is flagged
abbrev pub seenb : List ℕ → ℕ → List Bool → Bool
seenb [] i flags = true
seenb (r ∷ reach) i flags = both (pick (ltb 0 r) (get_or flags i false) true) (seenb reach (suc i) flags)

-- the array in which the first j cells have been moved one place down
abbrev pub down : ℕ → List Cell → List Cell
down j xs = take j (drop 1 xs) ++ drop j xs

-- the first event put in again at a plain place: so many cells move one place down, and the next gap falls
pub record PlainAt (q : Queue) (d : ℕ) (p : Place) : Type 0 where
  pub short : q.len ≤ cell_count
  pub in_row : p.passed < q.len
  pub falls : p.passed + 1 < q.len → p.gap ≤ (get_or q.cells (p.passed + 1) (cell 0 0)).gap
  pub last : q.len ≤ p.passed + 1 → queue_with (set (down p.passed q.cells) p.passed (cell (first_cell q).id p.gap)) q.len ≡ again_step max_gap q d
  pub between : p.passed + 1 < q.len → let c = get_or q.cells (p.passed + 1) (cell 0 0) in
      queue_with (set (set (down p.passed q.cells) (p.passed + 1) (cell c.id (c.gap - p.gap))) p.passed (cell (first_cell q).id p.gap)) q.len ≡ again_step max_gap q d

abbrev pub Placed : Queue → ℕ → Option Place → Type 0
Placed q d (Some p) = PlainAt q d p
Placed q d None = Unit
