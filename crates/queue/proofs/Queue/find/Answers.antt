use Rattle.std.proofs.Common.{◌≡◌, refl, sym, ◌∙◌, true, false, eqb, ◌∷◌, ◌+◌, get_or, drop, arith}
use Rattle.std.proofs.lemmas.List.{drop_more, drop_all}
use borrow.Author.Tests.{eq-eqb, ne_eqb}
use Rattle.queue.specs.Limits.{filler}
use Rattle.queue.specs.Row.{cell, cells_of, events_of}
use Rattle.queue.specs.Sound.{hasb}
use Rattle.queue.specs.Calls.{distance_of}
use Rattle.queue.proofs.Normal.{proper_events}
use Rattle.queue.proofs.Events.{no_filler}
use Rattle.queue.proofs.Walking.{walked_none, walked_pass, pass_next, remove_pass, events_pass}
use Rattle.queue.proofs.Queue.find.Goals as goal
use Rattle.queue.proofs.Queue.find.Goals.{In-loop-c}

-- the cell that stands next
step : (c : In-loop-c) → let cs = c.row-c-items.result.now in let i = c.loop-c.w.next in drop i cs ≡ get_or cs c.loop-c.c-index (cell 0 0) ∷ drop (i + 1) cs
step c = rw c.loop-c.invariant.0 (drop_more c.row-c-items.result.now c.loop-c.c-index (cell 0 0) c.loop-c-test.true)

pub returns-then-id-eq-FILLER : goal.returns-then-id-eq-FILLER
returns-then-id-eq-FILLER c =
    let q = c.args.self.now in
    rw c.if-id-eq-FILLER.true (no_filler (events_of q) (proper_events 0 (cells_of q)))

pub loop-c-init : goal.loop-c-init
loop-c-init c =
    (refl, walked_none _, λ M. refl, refl, refl)

pub returns-then-c-id : goal.returns-then-c-id
returns-then-c-id c =
    let l = c.loop-c in
    let cs = c.row-c-items.result.now in
    let x = get_or cs l.c-index (cell 0 0) in
    let e : x.id ≡ c.args.id = c.if-c-id.true in
    let y : eqb x.id c.args.id ≡ true = eq-eqb _ _ e in
    let n : eqb x.id filler ≡ false = ne_eqb _ _ (λ p. c.if-id-eq-FILLER.false (sym e ∙ p)) in
    let here = step (goal.at.returns-then-c-id c).In-loop-c in
    rw (← c.row-c-items.ensures.cells, c.from.ensures)
    (record {
      there = l.invariant.3 ∙ rw (here, n, y);
      start_by = omega arith;
      in_row = omega arith;
      small = omega arith;
      away = sym (l.invariant.4 ∙ rw (here, n, y));
      row = λ M. l.invariant.2 M ∙ rw (here, n, y);
    })

pub loop-c-preserved : goal.loop-c-preserved
loop-c-preserved c =
    let l = c.loop-c in
    let cs = c.row-c-items.result.now in
    let x = get_or cs l.c-index (cell 0 0) in
    let here = step (goal.at.loop-c-preserved c).In-loop-c in
    let n : eqb x.id c.args.id ≡ false = ne_eqb _ _ c.if-c-id.false in
    rw c.past-w.ensures (
      pass_next l.w x ∙ rw l.invariant.0,
      walked_pass cs l.w x l.invariant.1 (omega arith) (omega arith),
      λ M. l.invariant.2 M ∙ remove_pass M _ cs l.w x l.invariant.1.start_by here n,
      l.invariant.3 ∙ events_pass (hasb c.args.id) cs l.w x here (λ es. rw n),
      l.invariant.4 ∙ events_pass (distance_of c.args.id) cs l.w x here (λ es. rw n),
    )

pub returns : goal.returns
returns c =
    let l = c.loop-c in
    rw (← c.row-c-items.ensures.cells) (l.invariant.3 ∙ rw (drop_all l.w.next c.row-c-items.result.now (omega arith)))
