-- `scheduler::arrives` meets its contract: the sum fits its type, and the branches are the definition's tests.
use mathlib.Core.Path.{refl}
use borrow.Author.Tests.{le-leb, lt-leb, le-ltb, lt-ltb}
use Rattle.scheduler.specs.Arrive.{load_after}
use Rattle.scheduler.proofs.arrives.Goals as goal

pub returns-then-sum-le-MOST_PENDING : goal.returns-then-sum-le-MOST_PENDING
unfolding load_after
returns-then-sum-le-MOST_PENDING c =
    rw (le-leb _ _ c.if-sum-le-MOST_PENDING.true) (refl, refl)

pub returns-then-l-lt-MOST_LOST : goal.returns-then-l-lt-MOST_LOST
unfolding load_after
returns-then-l-lt-MOST_LOST c =
    rw (lt-leb _ _ c.if-sum-le-MOST_PENDING.false, lt-ltb _ _ c.if-l-lt-MOST_LOST.true) (refl, refl)

pub returns-else-l-lt-MOST_LOST : goal.returns-else-l-lt-MOST_LOST
unfolding load_after
returns-else-l-lt-MOST_LOST c =
    rw (lt-leb _ _ c.if-sum-le-MOST_PENDING.false, le-ltb _ _ c.if-l-lt-MOST_LOST.false) (refl, refl)
