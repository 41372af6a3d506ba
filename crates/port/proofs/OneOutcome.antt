-- ONE OUTCOME: any two outcomes that an exported call's contract allows are equal: the answer, and what the lent memory holds afterwards. Stated over the
-- contracts themselves: `f.Post κs a r e` is what the contract of `f` says of the arguments a, the result r and the parameters e as they are at exit.
-- Assumes nothing.
use mathlib.Core.Bool.{Bool}
use mathlib.Core.List.{List}
use Prim.Native.Nat.{ℕ}
use Rattle.small.proofs.Outcome.{One, same}
use Rattle.refusal.specs.declared.Refusal.{Refusal}
use Rattle.port.proofs.ribascenzo_queue_empty.Reads as queue-empty
use Rattle.port.proofs.ribascenzo_queue_sound.Reads as queue_sound
use Rattle.port.proofs.ribascenzo_queue_insert.Reads as queue-insert
use Rattle.port.proofs.ribascenzo_queue_remove.Reads as queue-remove
use Rattle.port.proofs.ribascenzo_queue_time_left.Reads as queue-time-left
use Rattle.port.proofs.ribascenzo_queue_clock.Reads as queue-clock
use Rattle.port.proofs.ribascenzo_queue_take.Reads as queue-take
use Rattle.port.proofs.ribascenzo_queue_push_back.Reads as queue-push-back
use Rattle.port.proofs.ribascenzo_fresh.Reads as fresh
use Rattle.port.proofs.ribascenzo_sound.Reads as sound
use Rattle.port.proofs.ribascenzo_tick.Reads as tick
use Rattle.port.proofs.ribascenzo_arrive.Reads as arrive
use Rattle.port.proofs.ribascenzo_budget.Reads as budget
use Rattle.port.proofs.ribascenzo_load.Reads as load
use Rattle.port.proofs.ribascenzo_setup_read.Reads as setup_read
use Rattle.port.proofs.ribascenzo_setup_write.Reads as setup-write
use Rattle.port.proofs.ribascenzo_message_read.Reads as message-read
use Rattle.port.proofs.ribascenzo_message_write.Reads as message-write

-- THE QUEUE: the first parameter is the queue's words

pub queue_empty_one : One {B = List ℕ} queue-empty.Post (λ κs x e. e.0.now)
queue_empty_one κs a x y e f p q = same p q

pub queue_sound_one : One {B = Bool} queue_sound.Post (λ κs x e. x)
queue_sound_one κs a x y e f p q = same p q

pub queue_insert_one : One {B = Refusal × List ℕ} queue-insert.Post (λ κs x e. (x, e.0.now))
queue_insert_one κs a x y e f p q = λ i. (same p.0 q.0 i, same p.1 q.1 i)

pub queue_remove_one : One {B = Refusal × List ℕ} queue-remove.Post (λ κs x e. (x, e.0.now))
queue_remove_one κs a x y e f p q = λ i. (same p.0 q.0 i, same p.1 q.1 i)

-- the distance is the third parameter
pub queue_time_left_one : One {B = Refusal × List ℕ} queue-time-left.Post (λ κs x e. (x, e.1.1.0.now))
queue_time_left_one κs a x y e f p q = λ i. (same p.0 q.0 i, same p.1 q.1 i)

pub queue_clock_one : One {B = Refusal × List ℕ} queue-clock.Post (λ κs x e. (x, e.0.now))
queue_clock_one κs a x y e f p q = λ i. (same p.0 q.0 i, same p.1 q.1 i)

-- the id is the second parameter
pub queue_take_one : One {B = Refusal × List ℕ × List ℕ} queue-take.Post (λ κs x e. (x, e.0.now, e.1.0.now))
queue_take_one κs a x y e f p q = λ i. (same p.0 q.0 i, same p.1.0 q.1.0 i, same p.1.1 q.1.1 i)

pub queue_push_back_one : One {B = Refusal × List ℕ} queue-push-back.Post (λ κs x e. (x, e.0.now))
queue_push_back_one κs a x y e f p q = λ i. (same p.0 q.0 i, same p.1 q.1 i)

-- THE SCHEDULER: the first parameter is the state's words

pub fresh_one : One {B = Refusal × List ℕ} fresh.Post (λ κs x e. (x, e.0.now))
fresh_one κs a x y e f p q = λ i. (same p.0 q.0 i, same p.1 q.1 i)

pub sound_one : One {B = Bool} sound.Post (λ κs x e. x)
sound_one κs a x y e f p q = same p q

-- the answer's words are the second parameter
pub tick_one : One {B = Refusal × List ℕ × List ℕ} tick.Post (λ κs x e. (x, e.0.now, e.1.0.now))
tick_one κs a x y e f p q = λ i. (same p.0 q.0 i, same p.1.0 q.1.0 i, same p.1.1 q.1.1 i)

-- whether the work is lost is the fourth
pub arrive_one : One {B = Refusal × List ℕ × List ℕ} arrive.Post (λ κs x e. (x, e.0.now, e.1.1.1.0.now))
arrive_one κs a x y e f p q = λ i. (same p.0 q.0 i, same p.1.0 q.1.0 i, same p.1.1 q.1.1 i)

-- the budget is the third
pub budget_one : One {B = Refusal × List ℕ} budget.Post (λ κs x e. (x, e.1.1.0.now))
budget_one κs a x y e f p q = λ i. (same p.0 q.0 i, same p.1 q.1 i)

-- the load is the fourth
pub load_one : One {B = Refusal × List ℕ} load.Post (λ κs x e. (x, e.1.1.1.0.now))
load_one κs a x y e f p q = λ i. (same p.0 q.0 i, same p.1 q.1 i)

-- FILES AND MESSAGES

-- the table's words are the second parameter
pub setup_read_one : One {B = Refusal × List ℕ} setup_read.Post (λ κs x e. (x, e.1.0.now))
setup_read_one κs a x y e f p q = λ i. (same p.0 q.0 i, same p.1 q.1 i)

-- the buffer is the second, the length written the third
pub setup_write_one : One {B = Refusal × List ℕ × List ℕ} setup-write.Post (λ κs x e. (x, e.1.0.now, e.1.1.0.now))
setup_write_one κs a x y e f p q = λ i. (same p.0 q.0 i, same p.1.0 q.1.0 i, same p.1.1 q.1.1 i)

-- the message's words are the second
pub message_read_one : One {B = Refusal × List ℕ} message-read.Post (λ κs x e. (x, e.1.0.now))
message_read_one κs a x y e f p q = λ i. (same p.0 q.0 i, same p.1 q.1 i)

-- the buffer is the fourth
pub message_write_one : One {B = Refusal × List ℕ} message-write.Post (λ κs x e. (x, e.1.1.1.0.now))
message_write_one κs a x y e f p q = λ i. (same p.0 q.0 i, same p.1 q.1 i)
