-- What the exported calls store fits into words: the table of an accepted setup, and the state of an accepted call, which are sound; and the length of a setup that
-- is written. Assumes nothing.
use mathlib.Core.Path.{◌≡◌, refl, sym, ap, ◌∙◌}
use mathlib.Core.Bool.{true}
use mathlib.Core.List.{List}
use Prim.Native.Nat.{ℕ, ◌<◌}
use native.Mathlib.Omega.{arith}
use lib.ListN.{length}
use borrow.Author.Tests.{not-false}
use Rattle.std.specs.Prelude.{Result, Ok, Err, IfOk, MatchResult}
use Rattle.refusal.specs.Refusal.{none}
use Rattle.refusal.specs.Reason.{refusal_by}
use Rattle.refusal.specs.declared.Refusal.{Refusal}
use Rattle.refusal.specs.declared.Reason.{Reason}
use Rattle.refusal.specs.declared.Fault.{Fault}
use Rattle.refusal.proofs.Decided.{Decided, decided}
use Rattle.refusal.proofs.Exactly.{passes, numbered}
use Rattle.field.specs.Write.{Written, written, written_with, written_by}
use Rattle.queue.specs.Limits.{longest}
use Rattle.table.specs.Limits.{most_work}
use Rattle.table.specs.Sound.{tableb}
use Rattle.table.specs.Meaning.{Sized}
use Rattle.table.specs.declared.Table.{Table}
use Rattle.setup.specs.Read.{reading_by, read_of}
use Rattle.setup.specs.Layout.{bytes_of}
use Rattle.setup.specs.Write.{write_checks, write_refusal}
use Rattle.setup.proofs.RoundTrip.{bytes_length, accepted_sound}
use Rattle.state.specs.Sound.{stateb}
use Rattle.state.specs.Fresh.{Made, made_by, made_with, fresh_of, fresh_state}
use Rattle.state.specs.declared.State.{State}
use Rattle.state.proofs.Keeps.{fresh_sound}
use Rattle.state.proofs.Laws.{fresh_made}
use Rattle.state.proofs.FreshSizes.{fresh_sized}
use Rattle.scheduler.specs.Tick.{Ticked, ticked_by, tick_of}
use Rattle.scheduler.specs.Arrive.{Arrived, arrived_by, arrive_of}
use Rattle.scheduler.specs.declared.Answer.{Answer}
use Rattle.scheduler.specs.declared.Arrival.{Arrival}
use Rattle.scheduler.proofs.TickSound.{tick_accepts}
use Rattle.scheduler.proofs.KeptSizes.{tick_sized, arrive_sized}
use Rattle.scheduler.proofs.Refusals.{arrive_accepted}
use Rattle.scheduler.proofs.Keeps.{ticked_sound, arrive_sound, tick_sound_accepted}
use Rattle.port.specs.Layout.{word_limit}
use Rattle.port.specs.Words.{table_in, state_in, state_words, TableFits, StateFits}
use Rattle.port.proofs.Storing.{some_reason}
use Rattle.port.proofs.Sizing.{table_in_full, full_sized, state_in_sized}
use Rattle.port.proofs.Ranges.{table_fits, state_fits}

-- A SETUP THAT IS READ: its table is sound, and fits into words
module _ (bs : List ℕ) where
  pub read_sound : (t : Table) → reading_by (Ok t) ≡ read_of longest most_work bs → (tableb longest most_work t ≡ true) × Sized t
  read_sound t e = rw (← e) at (accepted_sound longest most_work bs (rw (← e) refl))

  pub read_fits : (r : Result Table Fault) → reading_by r ≡ read_of longest most_work bs → IfOk r TableFits
  read_fits (Ok t) e = table_fits t (read_sound t e).0
  read_fits (Err f) e = tt

-- the state that a sound table begins in is sound
pub fresh_gives : (t : Table) → tableb longest most_work t ≡ true → stateb (fresh_of t).state ≡ true
fresh_gives t h = rw (fresh_made t h) (fresh_sound t h)

-- so that of a sound table is made, fits into words, and is what the memory then holds
module _ (t : Table) (sound : tableb longest most_work t ≡ true) (sized : Sized t) where
  made : fresh_of t ≡ made_with none (fresh_state t)
  made = fresh_made t sound

  pub fresh_fits : (r : Result State Reason) → made_by t r ≡ fresh_of t → IfOk r StateFits
  fresh_fits (Ok s) k =
      let same : s ≡ fresh_state t = ap (λ (m : Made). m.state) (k ∙ made) in
      rw same (state_fits (fresh_state t) (fresh_sized t sized) (fresh_sound t sound))
  fresh_fits (Err r) k = tt

  pub fresh_stored : (r : Result State Reason) → made_by t r ≡ fresh_of t → (x : Refusal) (new old : List ℕ)
      → MatchResult r (λ s. (x ≡ none) × (new ≡ state_words s)) (λ q. (x ≡ refusal_by q) × (new ≡ old))
      → (x ≡ none) × (new ≡ state_words (fresh_of t).state)
  fresh_stored (Ok s) k x new old h = (h.0, h.1 ∙ ap (λ (m : Made). state_words m.state) k)
  fresh_stored (Err q) k x new old h = absurd (some_reason q (ap (λ (m : Made). m.refusal.number) (k ∙ made)))

-- and that of an accepted tick and of an accepted arrival
pub tick_gives : (s : State) → (tick_of s).refusal.number ≡ 0 → stateb (tick_of s).state ≡ true
tick_gives s h = ticked_sound s ((tick_sound_accepted s).0 h)

pub arrive_gives : (s : State) (i j : ℕ) → (arrive_of s i j).refusal.number ≡ 0 → stateb (arrive_of s i j).state ≡ true
arrive_gives s i j h = arrive_sound s ((arrive_accepted s i j).0 h).0 i j

-- so a call on a state that words hold leaves one that fits into words
module _ (ws : List ℕ) (x : State) where
  pub tick_fits : (r : Result Answer Reason) → ticked_by r x ≡ tick_of (state_in ws) → IfOk r (λ a. StateFits x)
  tick_fits (Ok a) e =
      let s = state_in ws in
      let accepted : (tick_of s).refusal.number ≡ 0 = rw (← e) refl in
      let same : x ≡ (tick_of s).state = ap (λ (t : Ticked). t.state) e in
      rw same (state_fits (tick_of s).state (rw (tick_accepts s ((tick_sound_accepted s).0 accepted)) (tick_sized s (state_in_sized ws))) (tick_gives s accepted))
  tick_fits (Err r) e = tt

  pub arrive_fits : (i j : ℕ) (r : Result Arrival Reason) → arrived_by r x ≡ arrive_of (state_in ws) i j → IfOk r (λ a. StateFits x)
  arrive_fits i j (Ok a) e =
      let s = state_in ws in
      let accepted : (arrive_of s i j).refusal.number ≡ 0 = rw (← e) refl in
      let same : x ≡ (arrive_of s i j).state = ap (λ (t : Arrived). t.state) e in
      rw same (state_fits (arrive_of s i j).state (arrive_sized s i j (state_in_sized ws)) (arrive_gives s i j accepted))
  arrive_fits i j (Err r) e = tt

-- A TABLE THAT IS WRITTEN, of the words ws, into a buffer of n bytes
module _ (ws : List ℕ) (n : ℕ) (r : Result ℕ Reason) (e : written_by r ≡ written (write_refusal longest most_work (table_in ws) n) (bytes_of (table_in ws))) where
  abbrev table : Table
  table = table_in ws

  abbrev refusal : Refusal
  refusal = write_refusal longest most_work table n

  abbrev bytes : List ℕ
  bytes = bytes_of table

  answer : Decided (λ (w : Written). w.refusal) refusal (written_with none (length bytes)) (written_with refusal 0) (written refusal bytes)
  answer = decided (λ (w : Written). w.refusal) refusal _ _ (written refusal bytes) refl refl refl

  -- accepted, it has that many bytes, which fits into a word
  bytes_few : (k : ℕ) → written_by (Ok k) ≡ written refusal bytes → (refusal.number ≡ 0) × (k ≡ length bytes) × (k < word_limit)
  bytes_few k q =
      let a = answer.passed (ap (λ (w : Written). w.refusal.number) (sym q)) in
      let checks = write_checks longest most_work table n in
      let sound : tableb longest most_work table ≡ true = not-false _ ((passes checks (numbered checks refl)).0 a.0).0 in
      let same : k ≡ length bytes = ap (λ (w : Written). w.length) (q ∙ a.1) in
      (a.0, same, omega (arith, same, (bytes_length longest most_work table (full_sized table (table_in_full ws)) sound).1))

  pub length_fits : IfOk r (λ k. k < word_limit)
  length_fits = elim r as (λ o. written_by o ≡ written refusal bytes → IfOk o (λ k. k < word_limit)) [ Ok k ↦ λ q. (bytes_few k q).2 | Err x ↦ λ q. tt ] e
