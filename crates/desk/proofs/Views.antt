-- An outcome of a call is told by the answer that it is seen as, and what the outcomes of the calls below make of a message and of a batch. Assumes nothing.
use mathlib.Core.Path.{◌≡◌, refl, sym, ap, ◌∙◌}
use mathlib.Core.Bool.{Bool, true, false}
use mathlib.Core.List.{List}
use mathlib.Core.Logic.{◌≢◌}
use Prim.Native.Nat.{ℕ, ◌+◌, ◌-◌, ◌≤◌, ◌<◌}
use native.Mathlib.Omega.{arith}
use lib.Dec.{ltb}
use borrow.Author.Tests.{lt-ltb, le-ltb, ne_eqb}
use Rattle.std.specs.Prelude.{Result, Ok, Err, IsOk, ⊤}
use Rattle.small.specs.Small.{pick}
use Rattle.refusal.specs.Numbers.{unsound, ticks_passed}
use Rattle.refusal.specs.Refusal.{none, refused}
use Rattle.refusal.specs.Reason.{number_of}
use Rattle.refusal.specs.declared.Fault.{Fault}
use Rattle.refusal.specs.declared.Reason.{Reason}
use Rattle.refusal.specs.declared.Reason.TheVariants.{Unsound}
use Rattle.refusal.proofs.Reasons.{number_one, refusal_in_one, fault_one}
use Rattle.queue.specs.Limits.{longest}
use Rattle.table.specs.Limits.{most_work}
use Rattle.table.specs.Sound.{tableb}
use Rattle.table.specs.declared.Table.{Table}
use Rattle.setup.specs.Read.{Reading as Setup, reading_by as setup_by, read_of as setup_of}
use Rattle.setup.proofs.RoundTrip.{accepted_sound}
use Rattle.message.specs.Message.{Reading, read_with, reading_by, read_of}
use Rattle.message.specs.declared.Message.TheVariants.{Arrival}
use Rattle.state.specs.Sound.{stateb}
use Rattle.state.specs.Fresh.{Made, made_by, fresh_of}
use Rattle.state.specs.declared.State.{State}
use Rattle.state.proofs.Laws.{fresh_made}
use Rattle.scheduler.specs.Arrive.{Arrived, arrival_number, arrived_by, arrive_of}
use Rattle.scheduler.specs.declared.Arrival.{Arrival as Answer}
use Rattle.scheduler.specs.Run.{Batched, batch_by, run_of}
use Rattle.scheduler.specs.declared.Batch.{Batch}
use Rattle.scheduler.proofs.Refusals.{arrive_31, run_accepted}
use Rattle.scheduler.proofs.Unchanged.{arrive_unchanged}
use Rattle.lines.specs.declared.Line.{Line}
use Rattle.lines.specs.declared.Line.TheVariants.{Nothing, Refused, Lost}
use Rattle.desk.specs.Desk.{Opened, Met, RanOn, tick_limit, desk_with, met, open_of, arrived_of, sound_first, message_of, ran_with, not_run, ran_of, opened_by, met_by, decided_by, ran_by, sound_of}
use Rattle.desk.specs.Meaning.{line_number}
use Rattle.desk.specs.declared.Desk.{Desk}
use Rattle.desk.specs.declared.Ran.{Ran}
use Rattle.desk.proofs.Cases.{message_unsound, message_unread, arrive_sound_by}

-- TOLD BY ITS ANSWER

-- a reason's number is not that of no refusal
reason_there : (r : Reason) → number_of r ≢ 0
reason_there r e = absurd (let h = refusal_in_one (Ok tt) (Err r) (λ i. refused (sym e i) 0) in cc)

-- a message's outcome, and the run after it
pub met_one : (a b : Result Line Line) (d e : Desk) → met_by a d ≡ met_by b e → ◌≡◌ {A = Result Line Line × Desk} (a, d) (b, e)
met_one (Ok l) (Ok m) d e h = λ i. (Ok (h i).line, (h i).desk)
met_one (Ok l) (Err m) d e h = absurd (let g = ap (λ (x : Met). x.stop) h in cc)
met_one (Err l) (Ok m) d e h = absurd (let g = ap (λ (x : Met). x.stop) h in cc)
met_one (Err l) (Err m) d e h = λ i. (Err (h i).line, (h i).desk)

-- and before the line of a refusal is made
pub decided_one : (k : ℕ) (a b : Result Line Reason) (d e : Desk) → decided_by k a d ≡ decided_by k b e → ◌≡◌ {A = Result Line Reason × Desk} (a, d) (b, e)
decided_one k (Ok l) (Ok m) d e h = λ i. (Ok (h i).line, (h i).desk)
decided_one k (Ok l) (Err s) d e h = absurd (let g = ap (λ (x : Met). x.stop) h in cc)
decided_one k (Err r) (Ok m) d e h = absurd (let g = ap (λ (x : Met). x.stop) h in cc)
decided_one k (Err r) (Err s) d e h = let g = number_one r s (ap (λ (x : Met). line_number x.line) h) in λ i. (Err (g i), (h i).desk)

-- a batch's
pub ran_one : (a b : Result Ran Reason) (d e : Desk) → ran_by a d ≡ ran_by b e → ◌≡◌ {A = Result Ran Reason × Desk} (a, d) (b, e)
ran_one (Ok r) (Ok s) d e h = λ i. (Ok record { answers = (h i).answers; first = (h i).first; count = (h i).count }, (h i).desk)
ran_one (Ok r) (Err s) d e h = absurd (reason_there s (ap (λ (x : RanOn). x.refusal.number) (sym h)))
ran_one (Err r) (Ok s) d e h = absurd (reason_there r (ap (λ (x : RanOn). x.refusal.number) h))
ran_one (Err r) (Err s) d e h = let g = number_one r s (ap (λ (x : RanOn). x.refusal.number) h) in λ i. (Err (g i), (h i).desk)

-- WHETHER THE STATE IS SOUND

module _ (d : Desk) where
  pub sound_ok : {u : ⊤} → sound_of d ≡ Ok u → stateb d.state ≡ true
  sound_ok {u} e = go (stateb d.state) refl
    where
      go : (b : Bool) → stateb d.state ≡ b → stateb d.state ≡ true
      go true h = h
      go false h = absurd (let g = rw h at e in cc)

  sound_err : {r : Reason} → sound_of d ≡ Err r → (stateb d.state ≡ false) × (Unsound ≡ r)
  sound_err {r} e = go (stateb d.state) refl
    where
      go : (b : Bool) → stateb d.state ≡ b → (stateb d.state ≡ false) × (Unsound ≡ r)
      go true h = absurd (let g = rw h at e in cc)
      go false h = (h, let g = rw h at e in cc)

-- A SETUP, by its reader's outcome

pub opened_one : (a b : Result Desk Fault) → opened_by a ≡ opened_by b → a ≡ b
opened_one (Ok d) (Ok e) h = λ i. Ok (h i).desk
opened_one (Ok d) (Err g) h = absurd (reason_there g.reason (ap (λ (x : Opened). x.refusal.number) (sym h)))
opened_one (Err f) (Ok e) h = absurd (reason_there f.reason (ap (λ (x : Opened). x.refusal.number) h))
opened_one (Err f) (Err g) h = ap Err (fault_one f g (ap (λ (x : Opened). x.refusal) h))

module _ (bs : List ℕ) where
  pub open_err : (f : Fault) → setup_by (Err f) ≡ setup_of longest most_work bs → opened_by (Err f) ≡ open_of bs
  unfolding open_of fresh_of tableb
  open_err f e = rw (← e) refl

  module _ (t : Table) (e : setup_by (Ok t) ≡ setup_of longest most_work bs) where
    -- the table of an accepted setup is sound
    accepted : tableb longest most_work t ≡ true
    accepted = rw (← e) at (accepted_sound longest most_work bs (ap (λ (x : Setup). x.refusal.number) (sym e))).0

    -- so its state is made
    pub open_made : (r : Result State Reason) → made_by t r ≡ fresh_of t → IsOk r
    open_made (Ok s) m = refl
    open_made (Err r) m = absurd (reason_there r (ap (λ (x : Made). x.refusal.number) (m ∙ fresh_made t accepted)))

    pub open_ok : (s : State) → made_by t (Ok s) ≡ fresh_of t → opened_by (Ok (desk_with s 0 0)) ≡ open_of bs
    unfolding open_of
    open_ok s m = rw (← e, ← m) refl

-- A MESSAGE

module _ (d : Desk) (k : ℕ) (bs : List ℕ) where
  pub met_unsound : {r : Reason} → sound_of d ≡ Err r → decided_by k (Err r) d ≡ message_of d k bs
  met_unsound e = let (s, h) = sound_err d e in sym (message_unsound d k bs s ∙ ap (λ (x : Reason). met d (Refused (number_of x) k) true) h)

  pub met_unread : (r : Reason) → reading_by (Err r) ≡ read_of bs → stateb d.state ≡ true → decided_by k (Err r) d ≡ message_of d k bs
  met_unread r e s =
      let n = ap (λ (x : Reading). x.refusal.number) e in
      sym (message_unread d k bs s (λ z. reason_there r (n ∙ z)) ∙ ap (λ (m : ℕ). met d (Refused m k) true) (sym n))

  pub met_arrival : (i j : ℕ) → read_of bs ≡ read_with none (Arrival i j) → sound_first d k (arrived_of d i j k) ≡ message_of d k bs
  unfolding message_of
  met_arrival i j e = rw e refl

-- AN ARRIVAL, by the scheduler's outcome and the state after it

module _ (d : Desk) (i j k : ℕ) (s : State) where
  pub arrived_ok : {a : Answer} → arrived_by (Ok a) s ≡ arrive_of d.state i j
      → met (desk_with s d.ran d.left) (pick (lib.Dec.eqb (arrival_number a) 0) Nothing (Lost i j)) false ≡ sound_first d k (arrived_of d i j k)
  unfolding arrived_of
  arrived_ok e =
      let n = ap (λ (x : Arrived). x.refusal.number) e in
      rw (arrive_sound_by d.state i j (λ z. omega arith), ← e) refl

  pub arrived_unsound : (r : Reason) → r ≡ Unsound → arrived_by (Err r) s ≡ arrive_of d.state i j
      → met (desk_with s d.ran d.left) (Refused (number_of r) k) true ≡ sound_first d k (arrived_of d i j k)
  arrived_unsound r u f =
      let e = rw u at f in
      let n = sym (ap (λ (x : Arrived). x.refusal.number) e) in
      let same = ap (λ (x : Arrived). x.state) e ∙ (arrive_unchanged d.state i j (λ z. omega arith)).0 in
      rw (u, (arrive_31 d.state i j).0 n, same) refl

  pub arrived_refused_by : (r : Reason) → number_of r ≢ unsound → arrived_by (Err r) s ≡ arrive_of d.state i j
      → met (desk_with s d.ran d.left) (Refused (number_of r) k) false ≡ sound_first d k (arrived_of d i j k)
  unfolding arrived_of
  arrived_refused_by r o e =
      let n = ap (λ (x : Arrived). x.refusal.number) e in
      rw (arrive_sound_by d.state i j (λ z. o (n ∙ z)), ← e, ne_eqb (number_of r) 0 (reason_there r)) refl

-- A BATCH

module _ (d : Desk) where
  pub ran_unsound : {r : Reason} → sound_of d ≡ Err r → ran_by (Err r) d ≡ ran_of d
  unfolding ran_of
  ran_unsound e = let (s, h) = sound_err d e in rw (s, ← h) refl

  pub ran_past : stateb d.state ≡ true → tick_limit < d.ran + d.left → not_run (refused ticks_passed 0) d ≡ ran_of d
  unfolding ran_of
  ran_past s h = rw (s, lt-ltb tick_limit (d.ran + d.left) h) refl

  module _ (s : State) (w : d.ran + d.left ≤ tick_limit) where
    pub ran_err : (r : Reason) → batch_by (Err r) s ≡ run_of d.state d.left → ran_by (Err r) (desk_with s d.ran d.left) ≡ ran_of d
    unfolding run_of ran_of
    ran_err r e = go (stateb d.state) refl
      where
        n : number_of r ≡ (run_of d.state d.left).refusal.number
        n = ap (λ (x : Batched). x.refusal.number) e

        go : (b : Bool) → stateb d.state ≡ b → ran_by (Err r) (desk_with s d.ran d.left) ≡ ran_of d
        go true h = absurd (reason_there r (n ∙ (run_accepted d.state d.left).1 h))
        go false h =
            let f = rw h at e in
            rw (h, ap (λ (x : Batched). x.refusal.number) f, ap (λ (x : Batched). x.state) f) refl

    pub ran_ok : {b : Batch} → batch_by (Ok b) s ≡ run_of d.state d.left
        → ran_with none b.answers (desk_with s (d.ran + b.count) (d.left - b.count)) d.ran b.count ≡ ran_of d
    unfolding ran_of
    ran_ok e =
        let n = ap (λ (x : Batched). x.refusal.number) (sym e) in
        rw ((run_accepted d.state d.left).0 n, le-ltb tick_limit (d.ran + d.left) w, ← e) refl
