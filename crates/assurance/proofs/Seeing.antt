-- What is seen of one tick: one of a sound state is seen, and a refused one is not. Assumes nothing.
use mathlib.Core.Path.{◌≡◌}
use mathlib.Core.Bool.{true}
use mathlib.Core.List.{List, ◌∷◌}
use mathlib.Core.Logic.{◌≢◌}
use borrow.Author.Tests.{ne_eqb}
use Rattle.state.specs.Sound.{stateb}
use Rattle.state.specs.declared.State.{State}
use Rattle.scheduler.specs.Tick.{tick_of}
use Rattle.scheduler.proofs.Unchanged.{tick_unchanged}
use Rattle.scheduler.proofs.Keeps.{tick_sound_accepted}
use Rattle.assurance.specs.History.{Call, tick, seen, ticks_of}

pub seen_tick : (s : State) → stateb s ≡ true → (cs : List Call) → ticks_of s (tick ∷ cs) ≡ seen s ∷ ticks_of (tick_of s).state cs
unfolding ticks_of
seen_tick s h cs = rw ((tick_sound_accepted s).1 h)

pub unseen_tick : (s : State) → (tick_of s).refusal.number ≢ 0 → (cs : List Call) → ticks_of s (tick ∷ cs) ≡ ticks_of s cs
unfolding ticks_of
unseen_tick s n cs = rw (ne_eqb (tick_of s).refusal.number 0 n, (tick_unchanged s n).0)
