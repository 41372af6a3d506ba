-- `words::put_cells` meets its contract. The loop's invariant: the words of the first i cells are written (`Put`, proofs/Many.antt).
use mathlib.Core.List.{[], ◌∷◌}
use Rattle.port.specs.Words.{cell_word}
use Rattle.port.proofs.Many.{Put}
use Rattle.port.proofs.words.put_cells.Given as goal

abbrev pub invariant-loop-i : goal.invariant-loop-i
invariant-loop-i l =
    Put (λ c. cell_word c ∷ []) 1 l.cells l.initial.w l.i l.w
