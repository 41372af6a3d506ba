use Rattle.std.proofs.Common.{◌≡◌, refl, sym, ◌∙◌, true, false, [], ◌∷◌, ◌++◌, ◌+◌, eqb, get_or, take, drop, arith, rules}
use Rattle.std.proofs.lemmas.List.{drop_more, drop_all, take_all, take_more}
use borrow.Author.Tests.{lt-leb, le-leb}
use lib.ListN.{take-append-drop}
use Rattle.small.specs.Small.{both}
use Rattle.small.proofs.Tests.{both_false}
use Rattle.queue.specs.Limits.{max_gap, longest, cell_count, filler}
use Rattle.queue.specs.Row.{cell, events_from}
use Rattle.queue.specs.Sound.{distinctb, soundb}
use Rattle.queue.specs.Moves.{normb, sum_of, rowb}
use Rattle.queue.proofs.Scan.{Scanned, scanned_none, scanned_twice, scanned_more, sound_scan}
use Rattle.queue.proofs.Queue.is_sound.Goals as goal
use Rattle.queue.proofs.Queue.is_sound.Goals.{After-row-c-items, After-loop-c, After-is_spaced, then-not-is_spaced-via-then-not-is_spaced, then-not-is_spaced-via-else-not-is_spaced+then-seen-id, then-filler-via-then-filler, then-filler-via-else-filler+then-at-gt-LONGEST}

-- a queue that is not too long is judged by its row and the two sums
scan : (c : After-row-c-items) → let q = c.args.self.now in let cs = c.row-c-items.result.now in
    soundb max_gap longest q ≡ both (rowb max_gap longest cs) (eqb (sum_of q.cells) (sum_of cs))
scan c = rw c.row-c-items.ensures.cells (sound_scan max_gap longest c.args.self.now (omega arith) (omega arith) c.if-self-gt-CELLS.false)

bad : (c : After-row-c-items) → rowb max_gap longest c.row-c-items.result.now ≡ false → false ≡ soundb max_gap longest c.args.self.now
bad c r = sym (scan c ∙ rw r)

-- past the last cell all is known of the row
whole : (c : After-loop-c) → let l = c.loop-c in Scanned c.row-c-items.result.now l.seen l.at l.ids
whole c =
    let l = c.loop-c in
    let cs = c.row-c-items.result.now in
    let w : take l.c-index cs ≡ cs = take_all l.c-index cs (omega arith) in
    rw w at l.invariant.2

formed : (c : After-loop-c) → let l = c.loop-c in normb max_gap false c.row-c-items.result.now ≡ normb max_gap l.filler []
formed c =
    let l = c.loop-c in
    l.invariant.3 ∙ rw (drop_all l.c-index c.row-c-items.result.now (omega arith))

-- the test of the normal form at the cell that is read
form : (c : After-is_spaced) → let l = c.loop-c in let cs = c.row-c-items.result.now in
    normb max_gap false cs ≡ both c.is_spaced.result (normb max_gap (eqb (get_or cs l.c-index (cell 0 0)).id filler) (drop (l.c-index + 1) cs))
form c =
    let l = c.loop-c in
    l.invariant.3 ∙ rw (drop_more c.row-c-items.result.now l.c-index (cell 0 0) (omega arith), ← c.is_spaced.ensures)

-- an id that an event before has
twice : (c : After-is_spaced) → get_or c.loop-c.seen c.from-id.result false ≡ true → distinctb (events_from 0 c.row-c-items.result.now) ≡ false
twice c s =
    let l = c.loop-c in
    let cs = c.row-c-items.result.now in
    let x = get_or cs l.c-index (cell 0 0) in
    let w : take l.c-index cs ++ (x ∷ drop (l.c-index + 1) cs) ≡ cs = rw (drop_more cs l.c-index (cell 0 0) (omega arith)) at (take-append-drop l.c-index cs) in
    let t = scanned_twice (take l.c-index cs) l.seen l.at l.ids l.invariant.2 x (omega arith) (drop (l.c-index + 1) cs) (rw c.from-id.ensures at s) in
    rw w at t

pub returns-then-self-gt-CELLS : goal.returns-then-self-gt-CELLS
unfolding soundb
returns-then-self-gt-CELLS c =
    rw (lt-leb c.args.self.now.len cell_count c.if-self-gt-CELLS.true)

pub loop-c-init : goal.loop-c-init
loop-c-init c =
    (omega arith, omega arith, scanned_none, refl)

pub returns-then-not-is_spaced : goal.returns-then-not-is_spaced
unfolding rowb
returns-then-not-is_spaced c =
    let at = (goal.at.returns-then-not-is_spaced c).After-is_spaced in
    let before = (goal.at.returns-then-not-is_spaced c).After-row-c-items in
    elim c.then-not-is_spaced.branch [
      | then-not-is_spaced-via-then-not-is_spaced w ↦ bad before (rw (form at, w.if-not-is_spaced.true))
      | then-not-is_spaced-via-else-not-is_spaced+then-seen-id w ↦ bad before (rw (twice at w.if-seen-id.true) (both_false (normb max_gap false c.row-c-items.result.now)))
    ]

pub loop-c-preserved : goal.loop-c-preserved
loop-c-preserved c =
    let l = c.loop-c in
    let cs = c.row-c-items.result.now in
    let x = get_or cs l.c-index (cell 0 0) in (
      search rules,
      omega arith,
      rw (c.from-id.ensures, c.is_filler-filler.ensures, c.from-at.ensures, c.from-ids.ensures, take_more cs l.c-index (cell 0 0) (omega arith))
          (scanned_more (take l.c-index cs) l.seen l.at l.ids l.invariant.2 x (omega arith) (rw c.from-id.ensures at c.if-seen-id.false)),
      form (goal.at.loop-c-preserved c).After-is_spaced ∙ rw (c.if-not-is_spaced.false, c.is_filler-filler.ensures),
    )

pub returns-then-filler : goal.returns-then-filler
unfolding rowb
returns-then-filler c =
    let at = (goal.at.returns-then-filler c).After-loop-c in
    let before = (goal.at.returns-then-filler c).After-row-c-items in
    let s = whole at in
    elim c.then-filler.branch [
      | then-filler-via-then-filler w ↦ bad before (rw (formed at, w.if-filler.true))
      | then-filler-via-else-filler+then-at-gt-LONGEST w ↦
          bad before (rw (formed at, w.if-filler.false, s.distinct, ← s.sum, lt-leb c.loop-c.at longest w.if-at-gt-LONGEST.true))
    ]

pub returns : goal.returns
unfolding rowb
returns c =
    let s = whole (goal.at.returns c).After-loop-c in
    rw c.total.ensures
    (sym (scan (goal.at.returns c).After-row-c-items ∙ rw (formed (goal.at.returns c).After-loop-c, c.if-filler.false, s.distinct, ← s.sum, ← s.all, le-leb c.loop-c.at longest c.if-at-gt-LONGEST.false)))
