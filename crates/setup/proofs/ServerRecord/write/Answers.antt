-- `setup::Record::write` of a server meets its contract: its head's fields are written one behind the other, and its tasks behind them (`further`).
use Rattle.std.proofs.Common.{◌≡◌, ◌∙◌, ap, ℕ, List, [], ◌∷◌, take, arith}
use Rattle.std.specs.Prelude.{⊤}
use Rattle.small.specs.Small.{All}
use Rattle.field.specs.Field.{over}
use Rattle.field.proofs.Fields.{big_byte}
use Rattle.table.specs.declared.Task.{Task}
use Rattle.setup.specs.Layout.{head_bytes, server_bytes}
use Rattle.setup.proofs.Writing.{further}
use Rattle.setup.proofs.ServerRecord.write.Goals as goal

any_fit : (ts : List Task) → All (λ t. ⊤) ts
any_fit [] = tt
any_fit (t ∷ ts) = (tt, any_fit ts)

pub records-requires-clause-fit : goal.records-requires-clause-fit
records-requires-clause-fit c = any_fit (take c.args.self.now.count c.args.self.now.tasks)

pub returns-clause-bytes : goal.returns-clause-bytes
unfolding server_bytes head_bytes
returns-clause-bytes c =
    let s = c.args.self.now in
    let w = c.args.w.now in
    let kind : c.put.new.self.out.now ≡ over w.at (s.kind ∷ []) w.out.now = c.put.ensures.bytes ∙ ap (λ (l : List ℕ). over w.at l w.out.now) (big_byte s.kind (omega arith)) in
    let count : c.put-2.new.self.out.now ≡ over c.put.new.self.at (s.count ∷ []) c.put.new.self.out.now = c.put-2.ensures.bytes ∙ ap (λ (l : List ℕ). over c.put.new.self.at l c.put.new.self.out.now) (big_byte s.count (omega arith)) in
    let head = further w.at _ _ _ _ _ _ kind count (omega arith) (omega arith) in
    let period = further w.at _ _ _ _ _ _ head c.put-3.ensures.bytes (omega arith) (omega arith) in
    let budget = further w.at _ _ _ _ _ _ period c.put-4.ensures.bytes (omega arith) (omega arith) in
    further w.at _ _ _ _ _ _ budget c.records.ensures.bytes (omega arith) (omega arith)
