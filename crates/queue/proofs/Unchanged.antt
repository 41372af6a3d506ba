-- "A refusal answers its number, the place (0 where none is named below) and zero in every other part; a queue, state or table handed in comes back as
-- it was, unsound ones too." That the place is 0 stands in Refusals. Assumes nothing.
use mathlib.Core.Path.{◌≡◌}
use mathlib.Core.Logic.{◌≢◌}
use mathlib.Core.List.{◌++◌}
use Prim.Native.Nat.{ℕ}
use lib.ListN.{length, drop}
use Rattle.refusal.specs.Refusal.{first_of}
use Rattle.queue.specs.Row.{event, cells_of, events_of}
use Rattle.queue.specs.Calls.{formed, with_event, without_event, distance_of, earlier, due_id, without_due, later}
use Rattle.queue.specs.Calls.{insert_checks, find_checks, clock_checks, take_checks, push_checks}
use Rattle.queue.specs.Calls.{insert_of, remove_of, time_left_of, clock_of, take_of, push_back_of}
use Rattle.queue.specs.Steps.{place_cells, place_step}
use Rattle.queue.specs.declared.Queue.{Queue}
use Rattle.queue.proofs.Refusals.{place_checks}
use Rattle.queue.proofs.Answers.{changed_kept, taken_kept, left_kept}

-- of each call
module _ (M D : ℕ) (q : Queue) where
  pub insert_unchanged : (id delay : ℕ) → (insert_of M D q id delay).refusal.number ≢ 0 → (insert_of M D q id delay).queue ≡ q
  unfolding insert_of
  insert_unchanged id delay = changed_kept (first_of (insert_checks M D q id delay)) q (formed M (with_event (event id delay) (events_of q)))

  pub remove_unchanged : (id : ℕ) → (remove_of M D q id).refusal.number ≢ 0 → (remove_of M D q id).queue ≡ q
  unfolding remove_of
  remove_unchanged id = changed_kept (first_of (find_checks M D q id)) q (formed M (without_event id (events_of q)))

  pub time_left_unchanged : (id : ℕ) → (time_left_of M D q id).refusal.number ≢ 0 → (time_left_of M D q id).distance.0 ≡ 0
  unfolding time_left_of
  time_left_unchanged id = left_kept (first_of (find_checks M D q id)) (distance_of id (events_of q))

  pub clock_unchanged : (clock_of M D q).refusal.number ≢ 0 → (clock_of M D q).queue ≡ q
  unfolding clock_of
  clock_unchanged = changed_kept (first_of (clock_checks M D q)) q (formed M (earlier (events_of q)))

  pub take_unchanged : (take_of M D q).refusal.number ≢ 0 → ((take_of M D q).id ≡ 0) × ((take_of M D q).queue ≡ q)
  unfolding take_of
  take_unchanged = taken_kept (first_of (take_checks M D q)) q (due_id (events_of q)) (formed M (without_due (events_of q)))

  pub push_back_unchanged : (push_back_of M D q).refusal.number ≢ 0 → (push_back_of M D q).queue ≡ q
  unfolding push_back_of
  push_back_unchanged = changed_kept (first_of (push_checks M D q)) q (formed M (later (events_of q)))

pub place_unchanged : (M : ℕ) (q : Queue) (id delay : ℕ) → (place_step M q id delay).refusal.number ≢ 0 → (place_step M q id delay).queue ≡ q
unfolding place_step
place_unchanged M q id delay =
    let row = place_cells M id delay (cells_of q) in
    changed_kept (first_of (place_checks M q id delay)) q (record { cells = row ++ drop (length row) q.cells; len = length row })
