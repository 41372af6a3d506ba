-- THE WHOLE OUTPUT of the trace program, for a whole input.
-- "It reads standard input: as many setup bytes as the first two say (or all there are), then messages."
use Rattle.std.specs.Prelude.{List, [], ◌∷◌, ◌++◌, ℕ, zero, suc, ◌+◌, eqb, length, take, drop}
use Rattle.small.specs.Small.{pick}
use Rattle.field.specs.Field.{field_of}
use Rattle.scheduler.specs.Run.{answers_of, state_after_ticks}
use Rattle.lines.specs.Lines.{header_text, answer_lines, line_text, end_line}
use Rattle.lines.specs.declared.Line.TheVariants.{Refused}
use Rattle.desk.specs.Desk.{RanOn, desk_with, open_of, message_of, ran_of}
use Rattle.desk.specs.declared.Desk.{Desk}

-- "a line for each tick": those that are left, and the run behind them
abbrev pub left_lines : Desk → List ℕ
left_lines d = answer_lines d.ran d.left (answers_of d.left d.state)

abbrev pub behind_left : Desk → Desk
behind_left d = desk_with (state_after_ticks d.left d.state) (d.ran + d.left) 0

-- the messages from the place k of the input on, six bytes each. "At the end of input it writes `end` and the ticks run." f is more than there are bytes
abbrev pub messages_text : ℕ → Desk → ℕ → List ℕ → List ℕ
messages_text zero d k bs = []
messages_text (suc f) d k [] = end_line d.ran
messages_text (suc f) d k (b ∷ bs) =
    let m = message_of d k (take 6 (b ∷ bs)) in
    line_text m.line ++ pick m.stop [] (left_lines m.desk ++ messages_text f (behind_left m.desk) (k + 6) (drop 6 (b ∷ bs)))

unfoldable pub trace_of : List ℕ → List ℕ
trace_of input =
    let n = field_of 2 input in
    let o = open_of (take n input) in
    header_text ++ pick (eqb o.refusal.number 0)
    (messages_text (suc (length input)) o.desk n (drop n input))
    (line_text (Refused o.refusal.number o.refusal.place))

-- what the program writes for a batch of the message at k, and behind it; a batch that is refused is the last
abbrev pub batch_text : ℕ → RanOn → List ℕ → List ℕ
batch_text k r rest = pick (eqb r.refusal.number 0) (answer_lines r.first r.count r.answers ++ rest) (line_text (Refused r.refusal.number k))

-- and for all ticks that are left, batch after batch; f is at least their number
abbrev pub batches_text : ℕ → ℕ → Desk → List ℕ
batches_text zero k d = []
batches_text (suc f) k d = let r = ran_of d in pick (eqb d.left 0) [] (batch_text k r (batches_text f k r.desk))

abbrev pub behind_batches : ℕ → Desk → Desk
behind_batches zero d = d
behind_batches (suc f) d = pick (eqb d.left 0) d (behind_batches f (ran_of d).desk)

-- WHAT THE PROGRAM DOES, message by message and batch by batch. It goes on where no tick is left behind the batches: where none of them was refused.
-- proofs/Program.antt: it is the trace
abbrev pub program_text : ℕ → Desk → ℕ → List ℕ → List ℕ
program_text zero d k bs = []
program_text (suc f) d k [] = end_line d.ran
program_text (suc f) d k (b ∷ bs) =
    let m = message_of d k (take 6 (b ∷ bs)) in
    let n = m.desk.left in
    let e = behind_batches n m.desk in
    line_text m.line
    ++ pick m.stop [] (batches_text n k m.desk ++ pick (eqb e.left 0) (program_text f e (k + 6) (drop 6 (b ∷ bs))) [])

unfoldable pub program_of : List ℕ → List ℕ
program_of input =
    let n = field_of 2 input in
    let o = open_of (take n input) in
    header_text ++ pick (eqb o.refusal.number 0)
    (program_text (suc (length input)) o.desk n (drop n input))
    (line_text (Refused o.refusal.number o.refusal.place))
