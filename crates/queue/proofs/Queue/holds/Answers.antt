use Rattle.std.proofs.Common.{◌≡◌, sym, ◌∙◌, true, false, ◌∷◌, ◌++◌, ◌+◌, get_or, take, drop, arith, rules}
use Rattle.std.proofs.lemmas.List.{drop_more, take_more, take_all}
use lib.ListN.{take-append-drop}
use Rattle.queue.specs.Limits.{max_gap, longest}
use Rattle.queue.specs.Row.{cell, events_of, events_from}
use Rattle.queue.specs.Sound.{soundb}
use Rattle.queue.specs.Holds.{in_ticks, withinb, holdsb}
use Rattle.queue.proofs.Holding.{ticks_length, Looked, looked_none, looked_out, looked_more, seen_present}
use Rattle.queue.proofs.Queue.holds.Goals as goal
use Rattle.queue.proofs.Queue.holds.Goals.{Else-not-is_sound}

known : (c : Else-not-is_sound) → soundb max_gap longest c.args.self.now ≡ true
known c = sym c.is_sound.ensures ∙ c.if-not-is_sound.false

pub returns-then-not-is_sound : goal.returns-then-not-is_sound
unfolding holdsb
returns-then-not-is_sound c =
    rw (← c.is_sound.ensures, c.if-not-is_sound.true)

pub loop-c-init : goal.loop-c-init
loop-c-init c =
    (omega arith, looked_none (in_ticks c.args.reach.now))

pub returns-then-not-in_reach : goal.returns-then-not-in_reach
unfolding holdsb
returns-then-not-in_reach c =
    let l = c.loop-c in
    let reach = in_ticks c.args.reach.now in
    let cs = c.row-c-items.result.now in
    let x = get_or cs l.c-index (cell 0 0) in
    let w : take l.c-index cs ++ (x ∷ drop (l.c-index + 1) cs) ≡ cs = rw (drop_more cs l.c-index (cell 0 0) (omega arith)) at (take-append-drop l.c-index cs) in
    let t = looked_out reach (take l.c-index cs) l.seen l.at l.invariant.1 x (drop (l.c-index + 1) cs) (rw c.from-at.ensures at (sym c.in_reach.ensures ∙ c.if-not-in_reach.true)) in
    let d : withinb reach (events_of c.args.self.now) ≡ false = rw (w, c.row-c-items.ensures.cells) at t in
    rw (known (goal.at.returns-then-not-in_reach c).Else-not-is_sound, d)

pub loop-c-preserved : goal.loop-c-preserved
loop-c-preserved c =
    let l = c.loop-c in
    let cs = c.row-c-items.result.now in (
      search rules,
      rw (c.from-at.ensures, c.from.ensures, take_more cs l.c-index (cell 0 0) (omega arith))
          (looked_more (in_ticks c.args.reach.now) (take l.c-index cs) l.seen l.at l.invariant.1 (get_or cs l.c-index (cell 0 0)) (omega arith) (rw c.from-at.ensures at (sym c.in_reach.ensures ∙ c.if-not-in_reach.false))),
    )

pub returns : goal.returns
unfolding holdsb
returns c =
    let l = c.loop-c in
    let reach = in_ticks c.args.reach.now in
    let cs = c.row-c-items.result.now in
    let w = take_all l.c-index cs (omega arith) in
    let k : Looked reach cs l.seen l.at = rw w at l.invariant.1 in
    let h = rw c.row-c-items.ensures.cells at k.within in
    rw (known (goal.at.returns c).Else-not-is_sound, h)
    (c.all_seen.ensures ∙ (rw c.row-c-items.ensures.cells at (seen_present reach 0 l.seen (events_from 0 cs) (omega (arith, ticks_length c.args.reach.now)) k.flagged)))
