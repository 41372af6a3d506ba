-- `desk::Desk::open` meets its contract: its calls are those of the definition, and an accepted setup's table is sound. Assumes nothing.
use Rattle.std.proofs.lemmas.Result.{err_from_is_err_and}
use Rattle.desk.proofs.Views.{open_err, open_made, open_ok}
use Rattle.desk.proofs.Desk.open.Goals as goal

pub returns-in_err-table : goal.returns-in_err-table
returns-in_err-table c =
    let p = err_from_is_err_and c.from_residual.result c.from_residual.ensures.1 in
    rw (p.1, p.2) (open_err c.args.setup.now c.in_err-table.field-0.0 c.in_err-table.ensures)

pub unwrap-state-requires : goal.unwrap-state-requires
unwrap-state-requires c =
    open_made c.args.setup.now c.in_ok-table.table c.in_ok-table.ensures c.fresh.result c.fresh.ensures

pub returns : goal.returns
returns c =
    let s = c.unwrap-state in
    open_ok c.args.setup.now c.in_ok-table.table c.in_ok-table.ensures s.result (rw s.ensures at c.fresh.ensures)
