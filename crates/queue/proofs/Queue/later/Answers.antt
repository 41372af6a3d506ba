-- `queue::Queue::later` meets its contract: an empty row stays, a full first gap gets a filler before it, and any other grows.
use Rattle.std.proofs.Common.{◌≡◌, sym, ap, ◌∙◌, false, eqb, [], ◌∷◌, ◌+◌, ◌≤◌, set, drop, length, append-nil, arith}
use lib.Seq.{sets}
use borrow.Author.Tests.{eq-eqb, eqb-false}
use Rattle.small.proofs.Tests.{both_true}
use Rattle.queue.specs.Limits.{max_gap, cell_count, filler}
use Rattle.queue.specs.Row.{cell, cells_of, queue_of}
use Rattle.queue.specs.Steps.{first_cell}
use Rattle.queue.proofs.Cells.{made_len, cells_end}
use Rattle.queue.proofs.Moving.{sets_set, made_sets, copied}
use Rattle.queue.proofs.Pushing.{first_cell_lem, push_behind, push_first, first_queue}
use Rattle.queue.proofs.Queue.later.Goals as goal
use Rattle.queue.proofs.Queue.later.Goals.{Start, Then-self-eq-FULL}

full : (c : Start) → length c.args.self.now.cells ≡ cell_count
full c = omega arith

-- where the first gap is full there is room for a cell
room : (c : Then-self-eq-FULL) → c.args.self.now.len + 1 ≤ cell_count
room c =
    let q = c.args.self.now in
    let f : eqb q.len cell_count ≡ false = sym (both_true (eqb q.len cell_count)) ∙ (rw (eq-eqb (first_cell q).gap max_gap c.if-self-eq-FULL.true) at c.requires.room) in
    let n : q.len ≡ cell_count → ⊥ = eqb-false q.len cell_count f in
    omega (arith, c.requires.short)

pub returns-then-self-eq0 : goal.returns-then-self-eq0
returns-then-self-eq0 c =
    let e : cells_of c.args.self.now ≡ [] = cells_end c.args.self.now (full (goal.at.returns-then-self-eq0 c).Start) c.requires.short 0 (omega arith) in
    c.requires.made ∙ ap queue_of (rw e)

pub returns-then-self-eq-FULL : goal.returns-then-self-eq-FULL
returns-then-self-eq-FULL c =
    let q = c.args.self.now in
    let cs = cells_of q in
    let x = cell filler 1 in
    let n = room (goal.at.returns-then-self-eq-FULL c).Then-self-eq-FULL in
    let a = full (goal.at.returns-then-self-eq-FULL c).Start in
    let l = made_len q cs c.requires.made in
    let e : set c.copy_within.new.self 0 x ≡ sets q.cells 0 (x ∷ cs) =
    rw (c.copy_within.ensures.after, copied q 0 1 a c.requires.short (omega arith) (omega arith)) (sets_set q.cells 0 1 x cs (omega arith)) in
    let k : q.len + 1 ≡ 0 + length (x ∷ cs) = omega arith in
    (λ i. record { cells = e i; len = k i }) ∙ (rw append-nil at (made_sets q cs c.requires.made 0 0 (x ∷ cs) (omega arith) (omega arith) (omega arith) a))
    ∙ ap queue_of (sym (push_behind q a c.requires.short max_gap (omega arith) c.if-self-eq-FULL.true))

pub returns-else-self-eq-FULL : goal.returns-else-self-eq-FULL
returns-else-self-eq-FULL c =
    let q = c.args.self.now in
    let x = first_cell q in
    let a = full (goal.at.returns-else-self-eq-FULL c).Start in
    let e = first_cell_lem q a c.requires.short (omega arith) in
    first_queue q x (cell x.id (x.gap + 1)) (drop 1 (cells_of q)) (c.requires.made ∙ ap queue_of e)
    ∙ ap queue_of (sym (push_first q a c.requires.short max_gap (omega arith) c.if-self-eq-FULL.false))
