-- WHAT A CALL LEAVES IN THE WORDS, THE NEXT CALL READS: behind each call that stores, accepted or refused, the words are read as the queue or the state that the call
-- leaves. Assumes nothing.
use mathlib.Core.Path.{◌≡◌, refl, sym, subst}
use mathlib.Core.Bool.{Bool, true, false}
use mathlib.Core.List.{List, [], ◌∷◌}
use mathlib.Core.Logic.{◌≢◌}
use Prim.Native.Nat.{ℕ, zero, suc, ◌+◌, ◌/◌, ◌%◌, ◌<◌}
use native.Mathlib.Omega.{arith}
use lib.Dec.{ltb, eqb}
use lib.ListN.{drop}
use borrow.Author.Tests.{ltb-false, eqb-true, eqb-false, eq-eqb}
use Rattle.small.specs.Small.{pick, All}
use Rattle.small.proofs.Tests.{either_true, contrary}
use Rattle.small.proofs.All.{all_first, all_append}
use Rattle.refusal.specs.declared.Refusal.{Refusal}
use Rattle.queue.specs.Limits.{cell_count, filler, max_gap, longest}
use Rattle.queue.specs.Row.{Event, event, cell, cells_of, queue_of, event_at, events_from, events_of}
use Rattle.queue.specs.Sound.{hasb, soundb}
use Rattle.queue.specs.Calls.{insert_of, remove_of, clock_of, take_of, push_back_of}
use Rattle.queue.specs.declared.Cell.{Cell}
use Rattle.queue.specs.declared.Queue.{Queue}
use Rattle.queue.proofs.SoundLaws.{empty_events}
use Rattle.queue.proofs.Refusals.{remove_accepted}
use Rattle.queue.proofs.Unchanged.{insert_unchanged, remove_unchanged, clock_unchanged, take_unchanged, push_back_unchanged}
use Rattle.queue.proofs.Keeps.{empty_sound}
use Rattle.queue.specs.Meaning.{there}
use Rattle.queue.proofs.DueTimes.{insert_others, remove_others, clock_others, take_first, take_others, push_back_others}
use Rattle.table.specs.Limits.{most_work}
use Rattle.setup.specs.Read.{read_of}
use Rattle.setup.proofs.RoundTrip.{accepted_sound}
use Rattle.state.specs.Fresh.{fresh_of}
use Rattle.state.proofs.Laws.{fresh_made}
use Rattle.state.proofs.FreshSizes.{fresh_sized}
use Rattle.scheduler.specs.Tick.{tick_of}
use Rattle.scheduler.specs.Arrive.{arrive_of}
use Rattle.scheduler.proofs.Unchanged.{tick_unchanged, arrive_unchanged}
use Rattle.scheduler.proofs.Keeps.{tick_sound_accepted}
use Rattle.scheduler.proofs.TickSound.{tick_accepts}
use Rattle.scheduler.proofs.KeptSizes.{tick_sized, arrive_sized}
use Rattle.port.specs.Words.{word, many_in, cell_in, queue_in, queue_words, table_in, state_in, table_words, state_words, ByteEvent}
use Rattle.port.specs.Exports.{held_after, held_queue, held_rest, held_state, held_arrived}
use Rattle.port.proofs.Storing.{held_again, insert_gives, remove_gives, clock_gives, take_gives, push_back_gives}
use Rattle.port.proofs.Answering.{fresh_gives, tick_gives, arrive_gives}
use Rattle.port.proofs.Sizing.{state_in_sized}
use Rattle.port.proofs.Held.{ByteCell, first}
use Rattle.port.proofs.RoundTrip.{queue_there, table_there, state_there}

-- THE IDS OF A QUEUE THAT IS READ FROM WORDS ARE BYTES

cell_byte : (w : ℕ) → ByteCell (cell_in w)
unfolding cell_in
cell_byte w = go (ltb 16777215 w) refl
  where
    go : (b : Bool) → ltb 16777215 w ≡ b → ByteCell (pick b (cell filler 0) (cell (w / 65536) (w % 65536)))
    go true e = omega arith
    go false e = omega (arith, ltb-false 16777215 w e)

cells_bytes : (n : ℕ) (ws : List ℕ) → All ByteCell (many_in 1 first n ws)
cells_bytes zero ws = tt
cells_bytes (suc n) ws = (cell_byte (word 0 ws), cells_bytes n (drop 1 ws))

events_bytes : (t : ℕ) (cs : List Cell) → All ByteCell cs → All ByteEvent (events_from t cs)
events_bytes t [] a = tt
events_bytes t (c ∷ cs) a =
    all_append ByteEvent (event_at c.id (t + c.gap)) (events_from (t + c.gap) cs) (go (eqb c.id filler)) (events_bytes (t + c.gap) cs a.1)
  where
    go : (b : Bool) → All ByteEvent (pick b [] (event c.id (t + c.gap) ∷ []))
    go true = tt
    go false = (a.0, tt)

-- the ids of a queue that is read from words are bytes, whatever the words
read_bytes : (ws : List ℕ) → All ByteEvent (events_of (queue_in ws))
unfolding queue_in cells_of
read_bytes ws = events_bytes 0 (cells_of (queue_in ws)) (all_first ByteCell (word 0 ws) _ (cells_bytes cell_count (drop 1 ws)))

-- the ids are bytes exactly where each id that is there is one
byte_there : (j : ℕ) (es : List Event) → All ByteEvent es → hasb j es ≡ true → j < 256
byte_there j [] a h = contrary h refl
byte_there j (e ∷ es) a h = go (eqb e.id j) refl h (byte_there j es a.1)
  where
    go : (b : Bool) → eqb e.id j ≡ b → pick b true (hasb j es) ≡ true → (hasb j es ≡ true → j < 256) → j < 256
    go true p k r = omega (arith, eqb-true e.id j p, a.0)
    go false p k r = r k

there_bytes : (es : List Event) → ((j : ℕ) → hasb j es ≡ true → j < 256) → All ByteEvent es
there_bytes [] f = tt
there_bytes (e ∷ es) f = (f e.id (rw (eq-eqb e.id e.id refl)), there_bytes es λ j h. f j (rw (h, either_true (eqb e.id j))))

-- THE LAW: of a call on the queue that words hold, which answers the refusal r and the queue q; where it is accepted q is sound, and no id is there but x and
-- those that were there
module _ (ws : List ℕ) (r : Refusal) (q : Queue) (x : ℕ) where
  record Stores : Type 0 where
    sound : soundb max_gap longest q ≡ true
    byte : x < 256
    others : (j : ℕ) → j ≢ x → there j q ≡ there j (queue_in ws)

  stored_again : Stores → queue_in (queue_words q) ≡ q
  stored_again s = queue_there q s.sound (there_bytes (events_of q) λ j h. go j h (eqb j x) refl)
    where
      go : (j : ℕ) → there j q ≡ true → (b : Bool) → eqb j x ≡ b → j < 256
      go j h true e = omega (arith, eqb-true j x e, s.byte)
      go j h false e = byte_there j (events_of (queue_in ws)) (read_bytes ws) (rw (← s.others j (eqb-false j x e)) h)

  queue_again : (r.number ≡ 0 → Stores) → (r.number ≢ 0 → q ≡ queue_in ws) → queue_in (held_after r (queue_words q) ws) ≡ q
  queue_again accepted refused = held_again queue_in r (queue_words q) ws q (λ a. stored_again (accepted a)) (λ n. sym (refused n))

-- EACH CALL: the words behind it, accepted or refused, are read as the queue that the call leaves

pub empty_again : queue_in (queue_words (queue_of [])) ≡ queue_of []
empty_again = queue_there (queue_of []) (empty_sound max_gap longest) (rw empty_events tt)

module _ (ws : List ℕ) where
  abbrev queue : Queue
  queue = queue_in ws

  -- the code's id is a byte
  pub insert_again : (id delay : ℕ) → id < 256 → let c = insert_of max_gap longest queue id delay in queue_in (held_queue c ws) ≡ c.queue
  insert_again id delay h =
      let c = insert_of max_gap longest queue id delay in
      queue_again ws c.refusal c.queue id
      (λ a. record { sound = insert_gives queue id delay a; byte = h; others = λ j n. (insert_others max_gap longest queue id delay a j n).0 })
      (insert_unchanged max_gap longest queue id delay)

  pub remove_again : (id : ℕ) → let c = remove_of max_gap longest queue id in queue_in (held_queue c ws) ≡ c.queue
  remove_again id =
      let c = remove_of max_gap longest queue id in
      queue_again ws c.refusal c.queue id
      (λ a. record {
        sound = remove_gives queue id a;
        byte = byte_there id (events_of queue) (read_bytes ws) ((remove_accepted max_gap longest queue id).0 a).1;
        others = λ j n. (remove_others max_gap longest queue id (omega arith) a j n).0;
      })
      (remove_unchanged max_gap longest queue id)

  pub clock_again : let c = clock_of max_gap longest queue in queue_in (held_queue c ws) ≡ c.queue
  clock_again =
      let c = clock_of max_gap longest queue in
      queue_again ws c.refusal c.queue 0
      (λ a. record { sound = clock_gives queue a; byte = omega arith; others = λ j n. (clock_others max_gap longest queue (omega arith) a j).0 })
      (clock_unchanged max_gap longest queue)

  pub take_again : let t = take_of max_gap longest queue in queue_in (held_rest t ws) ≡ t.queue
  take_again =
      let t = take_of max_gap longest queue in
      queue_again ws t.refusal t.queue t.id
      (λ a. record {
        sound = take_gives queue a;
        byte = (subst (All ByteEvent) (take_first max_gap longest queue a) (read_bytes ws)).0;
        others = λ j n. (take_others max_gap longest queue a j n).0;
      })
      (λ n. (take_unchanged max_gap longest queue n).1)

  pub push_back_again : let c = push_back_of max_gap longest queue in queue_in (held_queue c ws) ≡ c.queue
  push_back_again =
      let c = push_back_of max_gap longest queue in
      queue_again ws c.refusal c.queue 0
      (λ a. record { sound = push_back_gives queue a; byte = omega arith; others = λ j n. (push_back_others max_gap longest queue a j).0 })
      (push_back_unchanged max_gap longest queue)

-- WHAT AN ACCEPTED SETUP STORES, THE NEXT CALL READS: its table, and the state that it begins in
module _ (bs : List ℕ) (a : (read_of longest most_work bs).refusal.number ≡ 0) where
  pub setup_again : let t = (read_of longest most_work bs).table in table_in (table_words t) ≡ t
  setup_again = let h = accepted_sound longest most_work bs a in table_there (read_of longest most_work bs).table h.1 h.0

  pub fresh_again : let s = (fresh_of (read_of longest most_work bs).table).state in state_in (state_words s) ≡ s
  fresh_again =
      let t = (read_of longest most_work bs).table in
      let h = accepted_sound longest most_work bs a in
      state_there (fresh_of t).state (rw (fresh_made t h.0) (fresh_sized t h.1)) (fresh_gives t h.0)

-- BEHIND A TICK AND AN ARRIVAL, accepted or refused: the state that the call leaves
pub tick_again : (ws : List ℕ) → let t = tick_of (state_in ws) in state_in (held_state t ws) ≡ t.state
tick_again ws =
    let s = state_in ws in
    let t = tick_of s in
    held_again state_in t.refusal (state_words t.state) ws t.state
    (λ a. state_there t.state (rw (tick_accepts s ((tick_sound_accepted s).0 a)) (tick_sized s (state_in_sized ws))) (tick_gives s a))
    (λ n. sym (tick_unchanged s n).0)

pub arrive_again : (ws : List ℕ) (i j : ℕ) → let t = arrive_of (state_in ws) i j in state_in (held_arrived t ws) ≡ t.state
arrive_again ws i j =
    let s = state_in ws in
    let t = arrive_of s i j in
    held_again state_in t.refusal (state_words t.state) ws t.state
    (λ a. state_there t.state (arrive_sized s i j (state_in_sized ws)) (arrive_gives s i j a))
    (λ n. sym (arrive_unchanged s i j n).0)
