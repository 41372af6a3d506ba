-- `queue::in_reach` meets its contract: an id past the reaches has none, and is in no reach.
use Rattle.std.proofs.Common.{◌≡◌, ℕ, ◌≤◌, Bool, true, false, ltb, leb, refl, length, arith}
use lib.ListN.{get_or-eq_default}
use borrow.Author.Tests.{ne_eqb, lt-leb, ltb-true}
use Rattle.small.specs.Small.{both}
use Rattle.queue.specs.Limits.{filler}
use Rattle.queue.specs.Holds.{in_ticks}
use Rattle.queue.proofs.Holding.{ticks_length}
use Rattle.queue.proofs.in_reach.Goals as goal

no_reach : (at : ℕ) → both (ltb 0 at) (leb at 0) ≡ false
no_reach at = go (ltb 0 at) refl
  where
    go : (b : Bool) → ltb 0 at ≡ b → both b (leb at 0) ≡ false
    go true p = lt-leb at 0 (ltb-true 0 at p)
    go false p = refl

pub returns-in-None : goal.returns-in-None
returns-in-None c =
    let past : length (in_ticks c.args.reach.now) ≤ c.args.id = omega (arith, ticks_length c.args.reach.now, c.in-None.ensures.lookup.3) in
    rw (ne_eqb c.args.id filler c.if-id-eq-FILLER.false, get_or-eq_default (in_ticks c.args.reach.now) 0 {n = c.args.id} past, no_reach c.args.at)
