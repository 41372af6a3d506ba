-- `queue::Queue::remove` meets its contract: each test is one of the definition's; then by `Standing` and `Regrouped` the row is the cells up to the event before, and
-- those behind the removed one counted from there. On a sound queue that is the normal form of the other events (`remove_sound`).
use Rattle.std.proofs.Common.{◌≡◌, sym, ap, ◌∙◌, true, ◌++◌, ◌+◌, ◌-◌, ◌≤◌, take, length, arith}
use lib.ListN.{replicate}
use Rattle.queue.specs.Limits.{max_gap, longest, cell_count}
use Rattle.queue.specs.Row.{cell, cells_of, queue_of, events_of}
use Rattle.queue.specs.Sound.{soundb}
use Rattle.queue.specs.Calls.{accepted_with, formed, without_event, remove_of}
use Rattle.queue.specs.Moves.{remove_cells, spliced}
use Rattle.queue.specs.declared.Chain.{Chain}
use Rattle.queue.proofs.Cells.{made_again, cells_length}
use Rattle.queue.proofs.SoundLaws.{Sound, sound_is, sound_full}
use Rattle.queue.proofs.Moving.{sets_behind, made_sets, pieces, pieces_length, spliced_length}
use Rattle.queue.proofs.Placing.{remove_sound, remove_fewer}
use Rattle.queue.proofs.Queue.remove.Goals as goal
use Rattle.queue.proofs.Queue.remove.Goals.{After-regroup-rest, After-clear, Else-not-is_sound, In-Some}

-- past the tests the queue is sound, and the event is there
sound : (c : Else-not-is_sound) → soundb max_gap longest c.args.self.now ≡ true
sound c = sym c.is_sound.ensures ∙ c.if-not-is_sound.false

is_sound : (c : Else-not-is_sound) → Sound max_gap longest c.args.self.now
is_sound c = sound_is max_gap longest c.args.self.now (sound c)

full : (c : Else-not-is_sound) → length c.args.self.now.cells ≡ cell_count
full c = sound_full max_gap longest c.args.self.now (is_sound c)

in_row : (c : Else-not-is_sound) → length (cells_of c.args.self.now) ≡ c.args.self.now.len
in_row c = cells_length c.args.self.now (full c) (is_sound c).short

abbrev none : Chain
none = record { id = 0; cells = 0; gap = 0 }

-- the places are in the row
within : (c : After-regroup-rest) → (c.in-Some.f.start ≤ c.args.self.now.len) × (c.regroup-rest.result.behind ≤ c.args.self.now.len)
within c =
    let l = in_row (goal.at.After-regroup-rest c).Else-not-is_sound in
    (omega (arith, c.in-Some.ensures.start_by, c.in-Some.ensures.in_row), omega (arith, c.regroup-rest.ensures.in_row))

-- the row: up to the event before, the cells of the next, and what stands behind
row : (c : After-regroup-rest) → let q = c.args.self.now in let t = (goal.at.After-regroup-rest c).Else-not-is_sound in let w = within c in
    remove_cells max_gap c.args.id (cells_of q) ≡ take c.in-Some.f.start (cells_of q) ++ pieces q (full t) (is_sound t).short c.in-Some.f.start none c.regroup-rest.result w.0 w.1
row c =
    c.in-Some.ensures.row max_gap ∙ rw c.regroup-rest.ensures.row

-- it is no longer than it was
fewer : (c : After-regroup-rest) → let q = c.args.self.now in let rest = c.regroup-rest.result in
    c.in-Some.f.start + 0 + rest.then.cells + (q.len - rest.behind) ≤ q.len
fewer c =
    let q = c.args.self.now in
    let t = (goal.at.After-regroup-rest c).Else-not-is_sound in
    let w = within c in
    omega (arith, spliced_length q (full t) (is_sound t).short c.in-Some.f.start none c.regroup-rest.result w.0 w.1 _ (row c), remove_fewer max_gap longest q (is_sound t) c.args.id (omega arith))

made : (c : After-clear) → c.clear.new.self ≡ formed max_gap (without_event c.args.id (events_of c.args.self.now))
unfolding spliced
made c =
    let q = c.args.self.now in
    let t = (goal.at.After-clear c).Else-not-is_sound in
    let b = (goal.at.After-clear c).After-regroup-rest in
    let s = is_sound t in
    let i = c.in-Some.f.start in
    let rest = c.regroup-rest.result in
    let w = within b in
    let m = i + 0 + rest.then.cells + (q.len - rest.behind) in
    let xs = pieces q (full t) s.short i none rest w.0 w.1 in
    let l = pieces_length q (full t) s.short i none rest w.0 w.1 in
    let n = in_row t in
    let e = sets_behind q.cells i m xs (replicate (q.len - m) (cell 0 0)) (omega arith) in
    let k : m ≡ i + length xs = omega arith in
    rw (c.clear.ensures, c.splice.ensures) ((λ j. record { cells = e j; len = k j })
    ∙ made_sets q (cells_of q) (made_again q _ s.form) i (q.len - m) xs (omega arith) (omega (arith, fewer b)) (omega (arith, fewer b, s.short)) (full t)
    ∙ ap queue_of (sym (row b) ∙ remove_sound max_gap longest q s c.args.id))

pub returns-then-not-is_sound : goal.returns-then-not-is_sound
unfolding remove_of
returns-then-not-is_sound c =
    rw (← c.is_sound.ensures, c.if-not-is_sound.true)

pub returns-in_default : goal.returns-in_default
unfolding remove_of
returns-in_default c =
    rw (sound (goal.at.returns-in_default c).Else-not-is_sound, c.in_default.ensures)

pub regroup-rest-requires : goal.regroup-rest-requires
regroup-rest-requires c =
    let f = c.in-Some.ensures in
    let l = in_row (goal.at.regroup-rest-requires c).Else-not-is_sound in
    (f.in_row, omega (arith, f.small, f.in_row, (is_sound (goal.at.regroup-rest-requires c).Else-not-is_sound).short))

pub splice-requires-clause-within : goal.splice-requires-clause-within
splice-requires-clause-within c =
    (within (goal.at.splice-requires-clause-within c).After-regroup-rest).1

pub splice-requires-clause-short : goal.splice-requires-clause-short
splice-requires-clause-short c =
    (is_sound (goal.at.splice-requires-clause-short c).Else-not-is_sound).short

pub splice-requires-clause-room : goal.splice-requires-clause-room
splice-requires-clause-room c =
    omega (arith, fewer (goal.at.splice-requires-clause-room c).After-regroup-rest, (is_sound (goal.at.splice-requires-clause-room c).Else-not-is_sound).short)

pub clear-requires : goal.clear-requires
unfolding spliced
clear-requires c =
    (rw c.splice.ensures (fewer (goal.at.clear-requires c).After-regroup-rest), (is_sound (goal.at.clear-requires c).Else-not-is_sound).short)

pub returns : goal.returns
unfolding remove_of
returns c =
    rw (sound (goal.at.returns c).Else-not-is_sound, c.in-Some.ensures.there) (ap accepted_with (made (goal.at.returns c).After-clear))
