-- THE PROGRAM WRITES THE TRACE: what it does, message by message and batch by batch, is document 01's trace, for every input. Assumes nothing.
use mathlib.Core.Path.{◌≡◌, refl, ap}
use mathlib.Core.Bool.{Bool, true, false}
use mathlib.Core.List.{List, [], ◌∷◌, ◌++◌}
use Prim.Native.Nat.{ℕ, zero, suc, ◌+◌, ◌<◌}
use native.Mathlib.Omega.{arith}
use lib.Dec.{eqb}
use lib.ListN.{length, take, drop, length-drop}
use borrow.Author.Tests.{eqb-true}
use Rattle.small.specs.Small.{pick}
use Rattle.field.specs.Field.{field_of}
use Rattle.lines.specs.Lines.{header_text, line_text}
use Rattle.lines.specs.declared.Line.TheVariants.{Refused}
use Rattle.desk.specs.Desk.{Opened, open_of, message_of}
use Rattle.desk.specs.Trace.{behind_left, messages_text, program_text, trace_of, program_of}
use Rattle.desk.specs.Meaning.{Kept}
use Rattle.desk.specs.declared.Desk.{Desk}
use Rattle.desk.proofs.Batches.{batches}
use Rattle.desk.proofs.Keeps.{opened_kept, message_kept, ticks_kept}

-- any count of turns that is more than there are bytes gives the same trace: each message takes some
pub turns_enough : (f g : ℕ) (d : Desk) (k : ℕ) (bs : List ℕ) → length bs < f → length bs < g → messages_text f d k bs ≡ messages_text g d k bs
turns_enough zero g d k bs l m = absurd (omega arith)
turns_enough (suc f) zero d k bs l m = absurd (omega arith)
turns_enough (suc f) (suc g) d k [] l m = refl
turns_enough (suc f) (suc g) d k (b ∷ bs) l m =
    let fewer = length-drop 6 (b ∷ bs) in
    let x = (message_of d k (take 6 (b ∷ bs))).desk in
    rw (turns_enough f g (behind_left x) (k + 6) (drop 6 (b ∷ bs)) (omega (arith, fewer)) (omega (arith, fewer)))

-- from the place k on, of a run that is kept
messages_are : (f : ℕ) (d : Desk) (k : ℕ) (bs : List ℕ) → Kept d → messages_text f d k bs ≡ program_text f d k bs
messages_are zero d k bs w = refl
messages_are (suc f) d k [] w = refl
messages_are (suc f) d k (b ∷ bs) w =
    let m = message_of d k (take 6 (b ∷ bs)) in
    let v = message_kept d k w (take 6 (b ∷ bs)) in
    let (text, behind) = batches m.desk.left k m.desk v.sound v.within (omega arith) in
    rw (text, behind, messages_are f (behind_left m.desk) (k + 6) (drop 6 (b ∷ bs)) (ticks_kept m.desk v))

pub trace_is : (input : List ℕ) → trace_of input ≡ program_of input
unfolding trace_of program_of
trace_is input = ap (λ (t : List ℕ). header_text ++ t) (go (eqb o.refusal.number 0) refl)
  where
    n : ℕ
    n = field_of 2 input

    o : Opened
    o = open_of (take n input)

    go : (b : Bool) → eqb o.refusal.number 0 ≡ b
        → pick b (messages_text (suc (length input)) o.desk n (drop n input)) (line_text (Refused o.refusal.number o.refusal.place))
        ≡ pick b (program_text (suc (length input)) o.desk n (drop n input)) (line_text (Refused o.refusal.number o.refusal.place))
    go true e = messages_are (suc (length input)) o.desk n (drop n input) (opened_kept (take n input) (eqb-true o.refusal.number 0 e))
    go false e = refl
