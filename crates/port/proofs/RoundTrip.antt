-- BOTH ROUND TRIPS: a queue, a table or a state that is sound is read back from its words; and words that are read as a sound one are the words of that one. Assumes
-- nothing.
use mathlib.Core.Path.{◌≡◌, sym, ap, ◌∙◌}
use mathlib.Core.Bool.{true}
use mathlib.Core.List.{List, [], ◌++◌, append-nil}
use Prim.Native.Nat.{ℕ, ◌+◌, ◌*◌}
use native.Mathlib.Omega.{arith}
use lib.ListN.{length, take, drop, length-drop}
use lib.Seq.{take_all, take-add, drop_at, drop-drop}
use Rattle.small.specs.Small.{each, All}
use Rattle.queue.specs.Limits.{max_gap, longest}
use Rattle.queue.specs.Row.{events_of}
use Rattle.queue.specs.Sound.{soundb}
use Rattle.queue.specs.declared.Queue.{Queue}
use Rattle.queue.proofs.SoundLaws.{sound_is, sound_full}
use Rattle.table.specs.Limits.{most_work, entries}
use Rattle.table.specs.Sound.{tableb}
use Rattle.table.specs.Meaning.{Sized}
use Rattle.table.specs.declared.Table.{Table}
use Rattle.state.specs.Sound.{stateb}
use Rattle.state.specs.Meaning.{SizedState}
use Rattle.state.specs.declared.State.{State}
use Rattle.port.specs.Layout.{queue_size, entry_size, table_size, state_size}
use Rattle.port.specs.Words.{many_in, queue_in, queue_words, entry_in, table_in, state_in, entry_words, table_words, state_words, ByteEvent}
use Rattle.port.proofs.Many.{many_held}
use Rattle.port.proofs.Storing.{queue_length}
use Rattle.port.proofs.Sizing.{sized_full, state_in_full, table_length}
use Rattle.port.proofs.Ranges.{EntryRange, table_range, state_range, queue_sound, sound_state_full}
use Rattle.port.proofs.Held.{queue_back, sound_small, queue_first}
use Rattle.port.proofs.HeldState.{back_all, table_back, held_back, entries_back, table_first, entry_held}

-- WRITTEN, THEN READ

-- every sound queue whose events' ids are bytes
pub queue_there : (q : Queue) → soundb max_gap longest q ≡ true → All ByteEvent (events_of q) → queue_in (queue_words q) ≡ q
queue_there q s a = rw append-nil at (queue_back q [] (sound_full max_gap longest q (sound_is max_gap longest q s)) (sound_small q s a))

-- every sound table
pub table_there : (t : Table) → Sized t → tableb longest most_work t ≡ true → table_in (table_words t) ≡ t
table_there t z h = rw append-nil at (table_back t [] (sized_full t z) (table_range t h))

-- every sound state
pub state_there : (s : State) → SizedState s → stateb s ≡ true → state_in (state_words s) ≡ s
unfolding state_in state_words
state_there s z h =
    let f = sound_state_full s z h in
    let r = state_range s f h in
    let ts = table_words s.table in
    let qs = queue_words s.refills in
    let es = each entry_words s.entries in
    let n = table_length s.table f.table in
    let refills : drop table_size (ts ++ (qs ++ es)) ≡ qs ++ es = drop_at ts (qs ++ es) table_size n in
    let last : drop (table_size + queue_size) (ts ++ (qs ++ es)) ≡ es ++ [] =
    rw (← drop-drop queue_size table_size (ts ++ (qs ++ es)), refills, drop_at qs es queue_size (queue_length s.refills f.cells), append-nil) in
    λ i. record {
      entries = (ap (many_in entry_size entry_in entries) last
          ∙ back_all entry_size entries entry_words entry_in s.entries [] f.count (entries_back s.entries f.entries r.entries)) i;
      table = table_back s.table (qs ++ es) f.table r.table i;
      refills = (ap queue_in refills ∙ held_back s.refills es r.refills) i;
    }

-- READ, THEN WRITTEN

-- words that are read as a sound queue
pub queue_held : (ws : List ℕ) → length ws ≡ queue_size → soundb max_gap longest (queue_in ws) ≡ true → queue_words (queue_in ws) ≡ ws
queue_held ws l s = queue_first ws (omega arith) s ∙ take_all queue_size ws (omega arith)

-- as a sound table
pub table_held : (ws : List ℕ) → length ws ≡ table_size → tableb longest most_work (table_in ws) ≡ true → table_words (table_in ws) ≡ ws
table_held ws l h = table_first ws (omega arith) (table_range (table_in ws) h) ∙ take_all table_size ws (omega arith)

-- as a sound state
pub state_held : (ws : List ℕ) → length ws ≡ state_size → stateb (state_in ws) ≡ true → state_words (state_in ws) ≡ ws
unfolding state_in state_words
state_held ws l h =
    let r = state_range (state_in ws) (state_in_full ws) h in
    let us = drop table_size ws in
    let n = entry_size * entries in
    let table = table_first ws (omega arith) r.table in
    let refills = queue_first us (rw length-drop (omega arith)) (queue_sound _ r.refills) in
    let es = drop (table_size + queue_size) ws in
    let last = many_held entry_size entry_words entry_in EntryRange entry_held entries es (rw length-drop (omega arith)) r.entries in
    let parts : take state_size ws ≡ take table_size ws ++ (take queue_size us ++ take n (drop (table_size + queue_size) ws)) =
    rw (take-add table_size (queue_size + n) ws, take-add queue_size n us, drop-drop queue_size table_size ws) in
    (λ i. table i ++ (refills i ++ last i)) ∙ sym parts ∙ take_all state_size ws (omega arith)
