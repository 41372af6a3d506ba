-- WHAT EVERY CALL KEEPS: a sound state stays sound under a tick, a run of ticks and an arrival, accepted or refused; and a tick of a sound state is
-- never refused, as it finds room for every event that is due. No array's length is assumed. Assumes nothing.
use mathlib.Core.Path.{◌≡◌}
use mathlib.Core.Bool.{true}
use mathlib.Core.Logic.{◌↔◌, ◌≢◌}
use Prim.Native.Nat.{ℕ, zero, suc}
use Rattle.small.proofs.Tests.{contrary}
use Rattle.refusal.specs.Numbers.{no_room_again}
use Rattle.state.specs.State.{server_at, task_at, period_at}
use Rattle.state.specs.Sound.{server_reaches, entryb, spentb, stateb}
use Rattle.state.specs.declared.Entry.{Entry}
use Rattle.state.specs.declared.State.{State}
use Rattle.state.proofs.Stated.{paired_one, state_parts, Parts}
use Rattle.state.proofs.HeldEach.{held_each}
use Rattle.state.proofs.Delays.{table_every, server_delayed}
use Rattle.scheduler.specs.Arrive.{with_arrival, with_loads, arrived_state, arrive_of}
use Rattle.scheduler.specs.Moves.{handled_entries}
use Rattle.scheduler.specs.Tick.{refills_turn, state_after, tick_of}
use Rattle.scheduler.specs.Run.{state_after_ticks, ticks_in, run_of}
use Rattle.scheduler.proofs.LapsedEntries.{entries_lapsed, all_spent_lem, arrived_spent}
use Rattle.scheduler.proofs.Refusals.{tick_30, tick_accepted, arrive_accepted, run_accepted}
use Rattle.scheduler.proofs.Answers.{run_done}
use Rattle.scheduler.proofs.Reached.{arrive_either}
use Rattle.scheduler.proofs.AgainLaws.{held_again}
use Rattle.scheduler.proofs.TickSound.{entries_served, load_sound_lem, refills_each, tick_room, before_sound, tick_accepts}

-- A TICK AND AN ARRIVAL

module _ (s : State) (h : stateb s ≡ true) where
  state : Parts s
  state = (state_parts s).0 h

  -- A SOUND STATE STAYS SOUND under a tick
  pub tick_sound : stateb (state_after s) ≡ true
  unfolding state_after
  tick_sound =
      let ss = s.table.servers in
      (state_parts (state_after s)).1 record {
        table = state.table;
        entries = entries_lapsed ss _ (entries_served ss _ (table_every s.table state.table) (before_sound s h));
        refills = (held_each (server_reaches ss) (refills_turn s)).1 (held_again (period_at s) (server_reaches ss) s.refills (refills_each s h) (server_delayed s.table state.table));
        spent = all_spent_lem ss (handled_entries s);
      }

  pub ticked_sound : stateb (tick_of s).state ≡ true
  ticked_sound = rw (tick_accepts s h) tick_sound

  -- AND UNDER AN ARRIVAL, accepted, lost or refused
  pub arrive_sound : (i j : ℕ) → stateb (arrive_of s i j).state ≡ true
  arrive_sound i j = arrive_either s i j (λ (x : State). stateb x ≡ true) h next
    where
      E : ℕ
      E = (task_at (server_at s i) j).work.0

      next : (arrive_of s i j).refusal.number ≡ 0 → stateb (arrived_state s i j) ≡ true
      next a =
          (state_parts (arrived_state s i j)).1 record {
            table = state.table;
            entries = paired_one entryb (λ (e : Entry). with_loads (with_arrival E j e.loads) e) s.table.servers s.entries i (load_sound_lem (server_at s i) E j ((arrive_accepted s i j).0 a).2) state.entries;
            refills = state.refills;
            spent = paired_one spentb (λ (e : Entry). with_loads (with_arrival E j e.loads) e) s.table.servers s.entries i (arrived_spent E j (server_at s i)) state.spent;
          }

-- 30 IS NEVER GIVEN: 8 events and 15 fillers are 23 cells
pub never_30 : (s : State) → (tick_of s).refusal.number ≢ no_room_again
never_30 s e = let r = (tick_30 s).0 e in contrary (tick_room s r.0) r.1

-- so a tick is refused exactly where the state is not sound
pub tick_sound_accepted : (s : State) → (tick_of s).refusal.number ≡ 0 ↔ (stateb s ≡ true)
tick_sound_accepted s = (λ e. ((tick_accepted s).0 e).0, λ h. (tick_accepted s).1 (h, tick_room s h))

-- A RUN OF TICKS

pub ticks_sound : (k : ℕ) (s : State) → stateb s ≡ true → stateb (state_after_ticks k s) ≡ true
ticks_sound zero s h = h
ticks_sound (suc k) s h = ticks_sound k (tick_of s).state (ticked_sound s h)

pub run_sound : (s : State) (k : ℕ) → stateb s ≡ true → stateb (run_of s k).state ≡ true
run_sound s k h = rw (run_done s k ((run_accepted s k).1 h)) (ticks_sound (ticks_in k) s h)
