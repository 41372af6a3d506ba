-- `state::first_events` meets its contract. The loop's invariant: the whole queue is what is left to put in, from the place i on, into the one at hand
-- (proofs/Freshly.antt).
use mathlib.Core.Path.{◌≡◌}
use lib.ListN.{drop}
use Rattle.state.specs.Fresh.{put_in, fresh_queue}
use Rattle.state.proofs.first_events.Given as goal

abbrev pub invariant-loop-i : goal.invariant-loop-i
invariant-loop-i g l =
    fresh_queue g.T.Timed.away l.timed ≡ put_in g.T.Timed.away (drop l.i l.timed) l.i l.q
