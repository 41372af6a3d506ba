-- `words::put_cells` meets its contract: each turn stores the word of the cell at its place (`put_more`). Assumes nothing.
use Rattle.std.proofs.Common.{rules, arith, refl, ◌<◌, get_or}
use mathlib.Core.Path.{ap}
use mathlib.Core.List.{[], ◌∷◌}
use lib.ListN.{length}
use Rattle.queue.specs.Row.{cell}
use Rattle.port.proofs.Many.{put_more, set_mid}
use Rattle.port.proofs.words.put_cells.Goals as goal

pub loop-i-preserved : goal.loop-i-preserved
loop-i-preserved c =
    let k = c.loop-i in
    let there : k.i < length k.w = omega (arith, k.auto.w) in
    rw (set_mid k.w k.i c.cell_word.result there)
    (put_more k.invariant (get_or c.args.cells k.i (cell 0 0)) (c.cell_word.result ∷ []) k.i 1 (search rules) (search rules) (ap (λ w. w ∷ []) c.cell_word.ensures) refl (omega arith) refl)
