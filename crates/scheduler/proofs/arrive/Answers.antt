-- `scheduler::arrive` meets its contract: the tests are the definition's, in its order; past them the task is one of the state's, whose work and pending work are
-- in range (proofs/Reached.antt), and the store is the arrival.
use mathlib.Core.Path.{◌≡◌, ◌∙◌}
use mathlib.Core.Bool.{true}
use Prim.Native.Nat.{◌<◌}
use native.Mathlib.Omega.{arith}
use borrow.Author.Tests.{lt-ltb, le-ltb}
use lib.ListN.{length, get_or, set}
use Rattle.refusal.specs.Refusal.{none}
use Rattle.table.specs.Limits.{entries}
use Rattle.state.specs.State.{server_at, entry_at, task_at}
use Rattle.state.specs.Sound.{stateb}
use Rattle.state.proofs.Stated.{Eight}
use Rattle.state.proofs.Sizes.{past_entry}
use Rattle.table.proofs.Sizes.{past_server}
use Rattle.scheduler.specs.Arrive.{with_loads, arrive_of}
use Rattle.scheduler.proofs.Outset.{checked_ok, handed_on}
use Rattle.scheduler.proofs.Reached.{Reached, reached, server_read, entry_read, server_there, arrival_stored}
use Rattle.scheduler.proofs.arrive.Goals as goal
use Rattle.scheduler.proofs.arrive.Goals.{Else-s-i, Else-v-j}

-- WHAT IS KNOWN PAST EACH TEST

known : (c : Else-s-i) → stateb c.args.s.now ≡ true
known c = checked_ok c.args.s.now c.in_ok-checked.ensures.outcome

eight : (c : Else-s-i) → Eight c.args.s.now
eight c = let z = c.checked.ensures.sized in record { servers = z.table.servers; entries = z.servers }

within : (c : Else-s-i) → c.args.server < entries
within c = server_there c.args.s.now c.args.server (eight c) (known c) c.if-s-i.false

-- what the code reads is what the definitions read

read : (c : Else-s-i) → get_or c.args.s.now.table.servers c.args.server past_server ≡ server_at c.args.s.now c.args.server
read c = server_read c.args.s.now c.args.server (eight c) (within c)

read_entry : (c : Else-s-i) → get_or c.args.s.now.entries c.args.server past_entry ≡ entry_at c.args.s.now c.args.server
read_entry c = entry_read c.args.s.now c.args.server (eight c) (within c)

-- the task
there : (c : Else-v-j) → c.args.task < (server_at c.args.s.now c.args.server).count
there c = rw (read (goal.at.Else-v-j c).Else-s-i) at c.if-v-j.false

here : (c : Else-v-j) → Reached c.args.s.now c.args.server c.args.task
here c =
    let h = (goal.at.Else-v-j c).Else-s-i in
    reached c.args.s.now c.args.server c.args.task (eight h) (known h) c.if-s-i.false (there c)

-- THE NEEDS

pub returns-in_err-checked : goal.returns-in_err-checked
unfolding arrive_of
returns-in_err-checked c =
    let h = handed_on c.args.s.now c.from_residual.result _ c.in_err-checked.ensures.outcome c.from_residual.ensures.1 in
    rw (h.0, h.1)

pub returns-then-s-i : goal.returns-then-s-i
unfolding arrive_of
returns-then-s-i c =
    rw (checked_ok c.args.s.now c.in_ok-checked.ensures.outcome, le-ltb c.args.server c.args.s.now.table.count c.if-s-i.true)

pub bounds-s-i : goal.bounds-s-i
bounds-s-i c =
    within (goal.at.bounds-s-i c).Else-s-i

pub returns-then-v-j : goal.returns-then-v-j
unfolding arrive_of
returns-then-v-j c =
    let h = (goal.at.returns-then-v-j c).Else-s-i in
    let few = rw (read h) at c.if-v-j.true in
    rw (known h, lt-ltb c.args.server c.args.s.now.table.count c.if-s-i.false, le-ltb c.args.task (server_at c.args.s.now c.args.server).count few)

pub bounds-v-j : goal.bounds-v-j
bounds-v-j c =
    (here (goal.at.bounds-v-j c).Else-v-j).task

pub returns-then-is_periodic : goal.returns-then-is_periodic
unfolding arrive_of
returns-then-is_periodic c =
    let h = goal.at.returns-then-is_periodic c in
    rw (
      known h.Else-s-i,
      lt-ltb c.args.server c.args.s.now.table.count c.if-s-i.false,
      lt-ltb c.args.task (server_at c.args.s.now c.args.server).count (there h.Else-v-j),
      ← rw (read h.Else-s-i) at c.if-is_periodic.ensures,
    )

pub bounds-e-j : goal.bounds-e-j
bounds-e-j c =
    (here (goal.at.bounds-e-j c).Else-v-j).task

pub arrives-requires : goal.arrives-requires
arrives-requires c =
    let h = goal.at.arrives-requires c in
    let r = here h.Else-v-j in
    rw (read_entry h.Else-s-i, read h.Else-s-i) (r.pending, r.work)

pub returns : goal.returns
unfolding arrive_of
returns c =
    let h = goal.at.returns c in
    let r = here h.Else-v-j in
    let s = c.args.s.now in
    let es = s.entries in
    let e = get_or es c.args.server past_entry in
    let m : c.args.server < length es = omega (arith, within h.Else-s-i, (eight h.Else-s-i).entries) in
    let n : length e.loads ≡ entries = rw (read_entry h.Else-s-i) (c.checked.ensures.sized.loads c.args.server (within h.Else-s-i)) in
    let E = (task_at (server_at s c.args.server) c.args.task).work.0 in
    let stored = arrival_stored es c.args.server c.args.task E past_entry m (omega (arith, r.task)) in
    let ends = rw (read h.Else-s-i) at c.arrives.ensures in
    let ar = rw (read_entry h.Else-s-i) at ends.1 in
    let after = (λ k. set es c.args.server (with_loads (set e.loads c.args.task (ends.0 k)) e)) ∙ stored in
    rw (
      known h.Else-s-i,
      lt-ltb c.args.server s.table.count c.if-s-i.false,
      lt-ltb c.args.task (server_at s c.args.server).count (there h.Else-v-j),
      ← rw (read h.Else-s-i) at c.if-is_periodic.ensures,
    )
    (λ k. record { state = record { entries = after k; table = s.table; refills = s.refills }; refusal = none; arrival = ar k })
