-- Queues in words, whatever stands behind them, both ways: the words of a queue are read as that queue; and words that are read as a sound queue are the words of
-- that queue, since a word above 16,777,215 is read as a filler of gap 0, which no sound queue has. Assumes nothing.
use mathlib.Core.Path.{◌≡◌, refl, ap, subst}
use mathlib.Core.Bool.{Bool, true, false}
use mathlib.Core.List.{List, [], ◌∷◌, ◌++◌}
use Prim.Native.Nat.{ℕ, ◌+◌, ◌-◌, ◌/◌, ◌%◌, ◌≤◌, ◌<◌}
use native.Mathlib.Omega.{arith}
use lib.Dec.{leb, ltb, eqb}
use lib.ListN.{length, take}
use borrow.Author.Tests.{le-ltb, leb-true, eqb-true, eq-eqb}
use Rattle.small.specs.Small.{pick, each, All}
use Rattle.small.proofs.Tests.{both_left, both_right}
use Rattle.small.proofs.All.{all_both, all_append, all_replicate}
use Rattle.queue.specs.Limits.{cell_count, filler, max_gap, longest}
use Rattle.queue.specs.Row.{Event, event, cell, cells_of, events_from, events_of}
use Rattle.queue.specs.Sound.{soundb}
use Rattle.queue.specs.Moves.{spacedb, normb}
use Rattle.queue.specs.declared.Cell.{Cell}
use Rattle.queue.specs.declared.Queue.{Queue}
use Rattle.queue.proofs.Normal.{proper_events}
use Rattle.queue.proofs.Cells.{made_row}
use Rattle.queue.proofs.Form.{normb_normal}
use Rattle.queue.proofs.SoundLaws.{sound_is, sound_cells, sound_again}
use Rattle.port.specs.Layout.{queue_size}
use Rattle.port.specs.Words.{word, many_in, cell_in, cell_word, queue_in, queue_words, ByteEvent}
use Rattle.port.proofs.Many.{Back, many_back, many_held}

-- THE CELLS OF A SOUND QUEUE

-- no gap is above M, and a filler's is not 0
pub record Spaced (M : ℕ) (c : Cell) : Type 0 where
  pub most : c.gap ≤ M
  pub least : c.id ≡ filler → 1 ≤ c.gap

spaced : (M : ℕ) (b : Bool) (c : Cell) → 1 ≤ M → spacedb M b c ≡ true → Spaced M c
spaced M true c m h = let e : c.gap ≡ M = eqb-true c.gap M h in record { most = omega arith; least = λ f. omega arith }
spaced M false c m h = record {
  most = leb-true c.gap M (both_right (pick (eqb c.id filler) (leb 1 c.gap) true) _ h);
  least = λ f. let p : pick (eqb c.id filler) (leb 1 c.gap) true ≡ true = both_left _ _ h in leb-true 1 c.gap (rw (eq-eqb c.id filler f) at p);
}

all_spaced : (M : ℕ) (b : Bool) (cs : List Cell) → 1 ≤ M → normb M b cs ≡ true → All (Spaced M) cs
all_spaced M b [] m h = tt
all_spaced M b (c ∷ cs) m h = (spaced M b c m (both_left _ _ h), all_spaced M (eqb c.id filler) cs m (both_right (spacedb M b c) _ h))

-- what holds of the zero cell and of each cell in use holds of every cell of a sound queue
row_all : (M D : ℕ) (q : Queue) → soundb M D q ≡ true → (P : Cell → Type 0) → P (cell 0 0) → All P (cells_of q) → All P q.cells
row_all M D q h P z a =
    let again = sound_again M D q (sound_is M D q h) in
    rw (made_row q (cells_of q) again) (all_append P (cells_of q) _ a (all_replicate P (cell_count - length (cells_of q)) (cell 0 0) z))

-- in a sound queue every cell is so, past the last too
pub sound_spaced : (M D : ℕ) (q : Queue) → 1 ≤ M → soundb M D q ≡ true → All (Spaced M) q.cells
sound_spaced M D q m h =
    let form : normb M false (cells_of q) ≡ true =
    rw (sound_cells M D q (sound_is M D q h)) (normb_normal M 0 (events_of q) m (proper_events 0 (cells_of q))) in
    row_all M D q h (Spaced M) record { most = omega arith; least = λ f. absurd (omega arith) } (all_spaced M false (cells_of q) m form)

-- WRITTEN, THEN READ

-- a cell's word and the cell in a word
abbrev one : Cell → List ℕ
one c = cell_word c ∷ []

abbrev pub first : List ℕ → Cell
first v = cell_in (word 0 v)

-- the id is a byte, and the gap fits into two
pub record Small (c : Cell) : Type 0 where
  pub id : c.id < 256
  pub gap : c.gap < 65536

cell_there : (c : Cell) → Small c → cell_in (cell_word c) ≡ c
unfolding cell_in
cell_there c s =
    let id : cell_word c / 65536 ≡ c.id = omega (arith, s.id, s.gap) in
    let gap : cell_word c % 65536 ≡ c.gap = omega (arith, s.id, s.gap) in
    rw (le-ltb 16777215 (cell_word c) (omega (arith, s.id, s.gap))) λ i. record { id = id i; gap = gap i }

cells_back : (cs : List Cell) → All Small cs → All (Back 1 one first) cs
cells_back [] a = tt
cells_back (c ∷ cs) a = (record { whole = refl; back = λ rest. cell_there c a.0 }, cells_back cs a.1)

-- a queue with all its cells, whatever stands behind its words
pub queue_back : (q : Queue) (rest : List ℕ) → length q.cells ≡ cell_count → All Small q.cells → queue_in (queue_words q ++ rest) ≡ q
unfolding queue_in queue_words
queue_back q rest l a =
    let e : many_in 1 first cell_count (each one q.cells ++ rest) ≡ q.cells =
    subst (λ (n : ℕ). many_in 1 first n (each one q.cells ++ rest) ≡ q.cells) l (many_back 1 one first q.cells rest (cells_back q.cells a)) in
    λ i. record { cells = e i; len = q.len }

-- a cell whose id is a byte
abbrev pub ByteCell : Cell → Type 0
ByteCell c = c.id < 256

-- a filler's id is a byte, and every other cell's is an event's
ids_small : (t : ℕ) (cs : List Cell) → All ByteEvent (events_from t cs) → All ByteCell cs
ids_small t [] a = tt
ids_small t (c ∷ cs) a = go (eqb c.id filler) refl (ids_small (t + c.gap) cs) a
  where
    rest : List Event
    rest = events_from (t + c.gap) cs

    go : (b : Bool) → eqb c.id filler ≡ b → (All ByteEvent rest → All ByteCell cs) → All ByteEvent (pick b [] (event c.id (t + c.gap) ∷ []) ++ rest)
        → All ByteCell (c ∷ cs)
    go true e f h = (omega (arith, eqb-true c.id filler e), f h)
    go false e f h = (h.0, f h.1)

-- the cells of a sound queue whose events' ids are bytes
pub sound_small : (q : Queue) → soundb max_gap longest q ≡ true → All ByteEvent (events_of q) → All Small q.cells
sound_small q s a =
    let ids : All ByteCell q.cells = row_all max_gap longest q s ByteCell (omega arith) (ids_small 0 (cells_of q) a) in
    all_both (λ c b p. record { id = b; gap = omega (arith, p.most) }) q.cells ids (sound_spaced max_gap longest q (omega arith) s)

-- READ, THEN WRITTEN

-- a cell of which a sound queue can be made has the word that it is read from
cell_held : (w : ℕ) → Spaced max_gap (cell_in w) → cell_word (cell_in w) ≡ w
unfolding cell_in
cell_held w s = go (ltb 16777215 w) s
  where
    read : Bool → Cell
    read b = pick b (cell filler 0) (cell (w / 65536) (w % 65536))

    go : (b : Bool) → Spaced max_gap (read b) → cell_word (read b) ≡ w
    go true p = absurd (omega (arith, p.least refl))
    go false p = omega arith

cells_held : (ws : List ℕ) → 1 ≤ length ws → Spaced max_gap (first ws) → one (first ws) ≡ take 1 ws
cells_held [] h s = absurd (omega arith)
cells_held (w ∷ ws) h s = ap (λ (x : ℕ). x ∷ []) (cell_held w s)

-- the words from which a sound queue is read are that queue's, whatever stands behind them
pub queue_first : (ws : List ℕ) → queue_size ≤ length ws → soundb max_gap longest (queue_in ws) ≡ true → queue_words (queue_in ws) ≡ take queue_size ws
unfolding queue_in queue_words
queue_first [] l s = absurd (omega arith)
queue_first (w ∷ ws) l s =
    ap {B = List ℕ} (λ l. w ∷ l)
    (many_held 1 one first (Spaced max_gap) cells_held cell_count ws (omega arith) (sound_spaced max_gap longest (queue_in (w ∷ ws)) (omega arith) s))
