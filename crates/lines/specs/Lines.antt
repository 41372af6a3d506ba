-- "It writes the header `tick server task` in every run, then a line for each tick. `-` for the task means burning; two mean idle." And what the other
-- lines say.
use Rattle.std.specs.Prelude.{List, [], ◌∷◌, ◌++◌, ℕ, zero, suc, ◌+◌, ◌*◌, ltb, length}
use Rattle.refusal.specs.Numbers.{buffer_short}
use Rattle.refusal.specs.Refusal.{Check, check, first_of}
use Rattle.field.specs.Write.{Written, written}
use Rattle.state.specs.declared.Choice.{Choice}
use Rattle.state.specs.declared.Choice.TheVariants.{Idle, Burning, Running}
use Rattle.scheduler.specs.Run.{batch_size}
use Rattle.scheduler.specs.declared.Answer.{Answer}
use Rattle.lines.specs.Decimal.{decimal}
use Rattle.lines.specs.declared.Line.{Line}
use Rattle.lines.specs.declared.Line.TheVariants.{Nothing, Refused, Lost}

abbrev pub space : ℕ
space = 32

abbrev pub minus : ℕ
minus = 45

abbrev pub newline : ℕ
newline = 10

-- `tick server task`
abbrev pub header_text : List ℕ
header_text = 116 ∷ 105 ∷ 99 ∷ 107 ∷ space ∷ 115 ∷ 101 ∷ 114 ∷ 118 ∷ 101 ∷ 114 ∷ space ∷ 116 ∷ 97 ∷ 115 ∷ 107 ∷ newline ∷ []

-- a space and a number, or a space and `-`
abbrev pub mark_text : ℕ → List ℕ
mark_text n = space ∷ decimal n

abbrev pub dash_text : List ℕ
dash_text = space ∷ minus ∷ []

-- the server and the task of a tick
abbrev pub choice_text : Choice → List ℕ
choice_text Idle = dash_text ++ (dash_text ++ (newline ∷ []))
choice_text (Burning i) = mark_text i ++ (dash_text ++ (newline ∷ []))
choice_text (Running i j) = mark_text i ++ (mark_text j ++ (newline ∷ []))

-- "a line for each tick"
abbrev pub tick_line : ℕ → Choice → List ℕ
tick_line n c = decimal n ++ choice_text c

-- those of the first k answers, whose ticks are numbered from n on
abbrev pub answer_lines : ℕ → ℕ → List Answer → List ℕ
answer_lines n zero xs = []
answer_lines n (suc k) [] = []
answer_lines n (suc k) (a ∷ xs) = tick_line n a.choice ++ answer_lines (suc n) k xs

-- `refused N at K`, `lost S T`
abbrev pub line_text : Line → List ℕ
line_text Nothing = []
line_text (Refused n k) =
    (114 ∷ 101 ∷ 102 ∷ 117 ∷ 115 ∷ 101 ∷ 100 ∷ []) ++ (mark_text n ++ ((space ∷ 97 ∷ 116 ∷ space ∷ []) ++ (decimal k ++ (newline ∷ []))))
line_text (Lost i j) = (108 ∷ 111 ∷ 115 ∷ 116 ∷ []) ++ (mark_text i ++ (mark_text j ++ (newline ∷ [])))

-- "`end` and the ticks run"
abbrev pub end_line : ℕ → List ℕ
end_line n = (101 ∷ 110 ∷ 100 ∷ space ∷ []) ++ (decimal n ++ (newline ∷ []))

-- WHERE IT STANDS: from a place on (`over` of crate field: where it does not fit, nothing is written)

-- no line is longer, and no batch of them
abbrev pub room : ℕ
room = 64

abbrev pub batch_room : ℕ
batch_room = room * batch_size

-- "32: buffer too short for what is written", for a buffer of n bytes
abbrev pub put_checks : ℕ → List ℕ → ℕ → List Check
put_checks at text n = check buffer_short (ltb n (at + length text)) ∷ []

-- what its writer answers: how many bytes it wrote
abbrev pub put_of : ℕ → List ℕ → List ℕ → Written
put_of at text buf = written (first_of (put_checks at text (length buf))) text
