-- Whether a sound queue holds exactly the events that it is to hold: for each id below the number of reaches, an event 1 to its reach away, and none
-- where the reach is 0. "Each once" is the soundness' part: ids differ.
use Rattle.std.specs.Prelude.{Bool, true, List, [], ◌∷◌, ℕ, suc, leb, ltb, get_or}
use Rattle.small.specs.Small.{pick, both}
use Rattle.queue.specs.Row.{Event, events_of}
use Rattle.queue.specs.Sound.{soundb, hasb}
use Rattle.queue.specs.declared.Distance.{Distance}
use Rattle.queue.specs.declared.Queue.{Queue}

-- the ticks of distances
abbrev pub in_ticks : List Distance → List ℕ
in_ticks [] = []
in_ticks (d ∷ ds) = d.0 ∷ in_ticks ds

-- each event is 1 to its reach away
abbrev pub withinb : List ℕ → List Event → Bool
withinb reach [] = true
withinb reach (e ∷ es) = both (both (ltb 0 e.at) (leb e.at (get_or reach e.id 0))) (withinb reach es)

-- each reach above 0, from the id i on, has its event
abbrev pub presentb : List ℕ → ℕ → List Event → Bool
presentb [] i es = true
presentb (r ∷ reach) i es = both (pick (ltb 0 r) (hasb i es) true) (presentb reach (suc i) es)

unfoldable pub holdsb : ℕ → ℕ → List ℕ → Queue → Bool
holdsb M D reach q = both (soundb M D q) (both (withinb reach (events_of q)) (presentb reach 0 (events_of q)))
