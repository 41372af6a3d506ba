-- Tables and the parts of states in words, whatever stands behind them, both ways: the words of a sound one are read as that one; and words that are read as a sound
-- one are its words, since every word that none of them has is read as what no sound one has. Assumes nothing.
use mathlib.Core.Path.{◌≡◌, refl, sym, ap, subst, ◌∙◌}
use mathlib.Core.Bool.{Bool, true, false}
use mathlib.Core.List.{List, [], ◌∷◌, ◌++◌, append_assoc}
use Prim.Native.Nat.{ℕ, zero, suc, ◌+◌, ◌*◌, ◌≤◌, ◌<◌}
use native.Mathlib.Omega.{arith}
use lib.Dec.{leb, ltb, eqb}
use lib.ListN.{length, take, drop, get_or, length-drop}
use lib.Seq.{take-add, drop_at, drop-drop}
use borrow.Author.Tests.{le-ltb, leb-true, eqb-true}
use Rattle.small.specs.Small.{pick, both, each, All}
use Rattle.small.proofs.Tests.{both_left, both_right, contrary}
use Rattle.queue.specs.Limits.{max_gap, longest}
use Rattle.queue.specs.Row.{Event, events_of}
use Rattle.queue.specs.declared.Queue.{Queue}
use Rattle.queue.proofs.SoundLaws.{sound_is, sound_full}
use Rattle.table.specs.Limits.{entries}
use Rattle.table.specs.Table.{ticks, release_number, period_of, offset_of}
use Rattle.table.specs.Sound.{releaseb}
use Rattle.table.specs.declared.Release.{Release}
use Rattle.table.specs.declared.Release.TheVariants.{OnArrival, Periodic}
use Rattle.table.specs.declared.Task.{Task}
use Rattle.table.specs.declared.Server.{Server}
use Rattle.table.specs.declared.Table.{Table}
use Rattle.state.specs.State.{most_pending, most_lost, load}
use Rattle.state.specs.Sound.{loadb}
use Rattle.state.specs.Moves.{AllOf}
use Rattle.state.specs.declared.Load.{Load}
use Rattle.state.specs.declared.Entry.{Entry}
use Rattle.state.proofs.Stated.{held, within_each}
use Rattle.port.specs.Layout.{queue_size, load_size, entry_size, task_size, server_size, table_size}
use Rattle.port.specs.Words.{word, many_in, queue_in, load_in, entry_in, release_in, task_in, kind_in, server_in, table_in, ByteEvent}
use Rattle.port.specs.Words.{queue_words, load_words, entry_words, task_words, server_words, table_words}
use Rattle.port.proofs.Many.{Back, many_back, many_held}
use Rattle.port.proofs.Sizing.{FullEntry, FullServer, FullTable}
use Rattle.port.proofs.Sizing.{loads_length, server_length, entry_length}
use Rattle.port.proofs.Ranges.{TaskRange, ServerRange, TableRange, QueueRange, EntryRange, queue_sound}
use Rattle.port.proofs.Held.{queue_back, sound_small, queue_first}

-- all that are so many, read one behind the other from their words
pub back_all : {A : Type 0} (size n : ℕ) (f : A → List ℕ) (g : List ℕ → A) (xs : List A) (rest : List ℕ) → length xs ≡ n → All (Back size f g) xs
    → many_in size g n (each f xs ++ rest) ≡ xs
back_all size n f g xs rest l a = subst (λ (m : ℕ). many_in size g m (each f xs ++ rest) ≡ xs) l (many_back size f g xs rest a)

-- TABLES, WRITTEN, THEN READ

release_back : (r : Release) → release_in (release_number r) (period_of r) (offset_of r) ≡ r
unfolding release_in
release_back OnArrival = refl
release_back (Periodic p o) = refl

task_back : (t : Task) (rest : List ℕ) → task_in (task_words t ++ rest) ≡ t
unfolding task_in
task_back t rest = λ i. record { work = t.work; release = release_back t.release i }

tasks_back : (ts : List Task) → All (Back task_size task_words task_in) ts
tasks_back [] = tt
tasks_back (t ∷ ts) = (record { whole = refl; back = task_back t }, tasks_back ts)

server_back : (s : Server) (rest : List ℕ) → FullServer s → ServerRange s → server_in (server_words s ++ rest) ≡ s
unfolding server_in server_words
server_back s rest f r =
    let kind : kind_in s.kind ≡ s.kind = rw (le-ltb 255 s.kind (omega (arith, r.kind))) in
    let tasks = back_all task_size entries task_words task_in s.tasks rest f.tasks (tasks_back s.tasks) in
    λ i. record { tasks = tasks i; count = s.count; kind = kind i; period = s.period; budget = s.budget }

servers_back : (ss : List Server) → All FullServer ss → All ServerRange ss → All (Back server_size server_words server_in) ss
servers_back [] f r = tt
servers_back (s ∷ ss) f r =
    (record { whole = server_length s f.0; back = λ rest. server_back s rest f.0 r.0 }, servers_back ss f.1 r.1)

pub table_back : (t : Table) (rest : List ℕ) → FullTable t → TableRange t → table_in (table_words t ++ rest) ≡ t
unfolding table_in table_words
table_back t rest f r =
    let servers = back_all server_size entries server_words server_in t.servers rest f.count (servers_back t.servers f.servers r.servers) in
    λ i. record { servers = servers i; count = t.count }

-- STATES, WRITTEN, THEN READ

-- the ids of a queue's events are places, of which there are few: bytes
ids_few : (es : List Event) → AllOf (λ id. id < entries) es → All ByteEvent es
ids_few [] a = tt
ids_few (e ∷ es) a = (omega (arith, a.0), ids_few es a.1)

-- a place past the end has reach 0
reach_place : (reach : List ℕ) (id at : ℕ) → 0 < at → at ≤ get_or reach id 0 → id < length reach
reach_place [] id at p h = absurd (omega arith)
reach_place (r ∷ reach) zero at p h = omega arith
reach_place (r ∷ reach) (suc id) at p h = omega (arith, reach_place reach id at p h)

pub held_back : (q : Queue) (rest : List ℕ) → QueueRange q → queue_in (queue_words q ++ rest) ≡ q
held_back q rest r =
    let h = (held r.reach q).0 r.holds in
    let near : (id at : ℕ) → 0 < at → at ≤ get_or r.reach id 0 → id < entries = λ id at p k. omega (arith, reach_place r.reach id at p k, r.few) in
    let ids = ids_few (events_of q) (within_each (λ id. id < entries) r.reach (events_of q) near h.within) in
    queue_back q rest (sound_full max_gap longest q (sound_is max_gap longest q h.sound)) (sound_small q h.sound ids)

load_back : (l : Load) (rest : List ℕ) → loadb l ≡ true → load_in (load_words l ++ rest) ≡ l
unfolding load_in
load_back l rest h = rw (le-ltb 65535 l.lost (leb-true l.lost most_lost (both_right (leb l.pending.0 most_pending) _ h)))

loads_back : (ls : List Load) → All (λ l. loadb l ≡ true) ls → All (Back load_size load_words load_in) ls
loads_back [] a = tt
loads_back (l ∷ ls) a = (record { whole = refl; back = λ rest. load_back l rest a.0 }, loads_back ls a.1)

entry_back : (e : Entry) (rest : List ℕ) → FullEntry e → EntryRange e → entry_in (entry_words e ++ rest) ≡ e
unfolding entry_in entry_words
entry_back e rest f r =
    let ls = each load_words e.loads in
    let qs = queue_words e.arrivals in
    let parts : (ls ++ qs) ++ rest ≡ ls ++ (qs ++ rest) = append_assoc ls qs rest in
    let loads = back_all load_size entries load_words load_in e.loads (qs ++ rest) f.loads (loads_back e.loads r.loads) in
    let behind : drop (load_size * entries) (ls ++ (qs ++ rest)) ≡ qs ++ rest = drop_at ls (qs ++ rest) (load_size * entries) (loads_length e f) in
    λ i. record {
      loads = (ap (many_in load_size load_in entries) parts ∙ loads) i;
      arrivals = (ap queue_in (ap (drop (load_size * entries)) parts ∙ behind) ∙ held_back e.arrivals rest r.arrivals) i;
      budget = e.budget;
    }

pub entries_back : (es : List Entry) → All FullEntry es → All EntryRange es → All (Back entry_size entry_words entry_in) es
entries_back [] f r = tt
entries_back (e ∷ es) f r =
    (record { whole = entry_length e f.0; back = λ rest. entry_back e rest f.0 r.0 }, entries_back es f.1 r.1)

-- TABLES, READ, THEN WRITTEN

-- numbers that are read as a release of a sound task are that release's
pub record ReleaseHeld (r t o : ℕ) (x : Release) : Type 0 where
  pub release : release_number x ≡ r
  pub period : period_of x ≡ t
  pub offset : offset_of x ≡ o

release_held : (r t o : ℕ) → releaseb longest (release_in r t o) ≡ true → ReleaseHeld r t o (release_in r t o)
unfolding release_in
release_held r t o h = go (eqb r 1) refl (both (eqb r 0) (both (eqb t 0) (eqb o 0))) refl h
  where
    read : Bool → Bool → Release
    read b d = pick b (Periodic (ticks t) (ticks o)) (pick d OnArrival (Periodic (ticks 0) (ticks 0)))

    go : (b : Bool) → eqb r 1 ≡ b → (d : Bool) → both (eqb r 0) (both (eqb t 0) (eqb o 0)) ≡ d
        → releaseb longest (read b d) ≡ true → ReleaseHeld r t o (read b d)
    go true p d q k = record { release = sym (eqb-true r 1 p); period = refl; offset = refl }
    go false p true q k =
        let z = both_right (eqb r 0) _ q in
        record {
          release = sym (eqb-true r 0 (both_left _ _ q));
          period = sym (eqb-true t 0 (both_left _ _ z));
          offset = sym (eqb-true o 0 (both_right (eqb t 0) _ z));
        }
    go false p false q k = contrary k refl

-- the first word, and the first four, before n others
first_word : (n : ℕ) (ws : List ℕ) → suc n ≤ length ws → take (suc n) ws ≡ word 0 ws ∷ take n (drop 1 ws)
first_word n [] l = absurd (omega arith)
first_word n (a ∷ ws) l = refl

four_words : (n : ℕ) (ws : List ℕ) → suc (suc (suc (suc n))) ≤ length ws
    → take (suc (suc (suc (suc n)))) ws ≡ word 0 ws ∷ word 1 ws ∷ word 2 ws ∷ word 3 ws ∷ take n (drop 4 ws)
four_words n [] l = absurd (omega arith)
four_words n (a ∷ []) l = absurd (omega arith)
four_words n (a ∷ b ∷ []) l = absurd (omega arith)
four_words n (a ∷ b ∷ c ∷ []) l = absurd (omega arith)
four_words n (a ∷ b ∷ c ∷ d ∷ ws) l = refl

task_held : (ws : List ℕ) → task_size ≤ length ws → TaskRange (task_in ws) → task_words (task_in ws) ≡ take task_size ws
unfolding task_in
task_held ws l h = let r = release_held (word 0 ws) (word 2 ws) (word 3 ws) h in rw (four_words 0 ws l, r.release, r.period, r.offset)

kind_held : (k : ℕ) → kind_in k ≤ 3 → kind_in k ≡ k
kind_held k h = go (ltb 255 k) h
  where
    go : (b : Bool) → pick b 255 k ≤ 3 → pick b 255 k ≡ k
    go true p = absurd (omega arith)
    go false p = refl

server_held : (ws : List ℕ) → server_size ≤ length ws → ServerRange (server_in ws) → server_words (server_in ws) ≡ take server_size ws
unfolding server_in server_words
server_held ws l r =
    let tasks = many_held task_size task_words task_in TaskRange task_held entries (drop 4 ws) (rw length-drop (omega arith)) r.tasks in
    rw (four_words (task_size * entries) ws l, kind_held (word 0 ws) r.kind, tasks)

pub table_first : (ws : List ℕ) → table_size ≤ length ws → TableRange (table_in ws) → table_words (table_in ws) ≡ take table_size ws
unfolding table_in table_words
table_first ws l r =
    let servers = many_held server_size server_words server_in ServerRange server_held entries (drop 1 ws) (rw length-drop (omega arith)) r.servers in
    rw (first_word (server_size * entries) ws l, servers)

-- STATES, READ, THEN WRITTEN

load_held : (ws : List ℕ) → load_size ≤ length ws → loadb (load_in ws) ≡ true → load_words (load_in ws) ≡ take load_size ws
unfolding load_in
load_held [] l h = absurd (omega arith)
load_held (a ∷ []) l h = absurd (omega arith)
load_held (a ∷ b ∷ ws) l h = go (ltb 65535 b) h
  where
    read : Bool → Load
    read d = pick d (load 4294967295 0) (load a b)

    go : (d : Bool) → loadb (read d) ≡ true → load_words (read d) ≡ a ∷ b ∷ []
    go true k = contrary k refl
    go false k = refl

pub entry_held : (ws : List ℕ) → entry_size ≤ length ws → EntryRange (entry_in ws) → entry_words (entry_in ws) ≡ take entry_size ws
unfolding entry_in entry_words
entry_held ws l r =
    let us = drop 1 ws in
    let n = load_size * entries in
    let loads = many_held load_size load_words load_in (λ x. loadb x ≡ true) load_held entries us (rw length-drop (omega arith)) r.loads in
    let arrivals = queue_first (drop (1 + n) ws) (rw length-drop (omega arith)) (queue_sound _ r.arrivals) in
    let parts : take entry_size ws ≡ word 0 ws ∷ (take n us ++ take queue_size (drop (1 + n) ws)) =
    rw (first_word (n + queue_size) ws l, take-add n queue_size us, drop-drop n 1 ws) in
    (λ i. word 0 ws ∷ (loads i ++ arrivals i)) ∙ sym parts
