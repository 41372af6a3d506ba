-- `setup::Record::write` of a task meets its contract: its four fields are written one behind the other (`further`), and together they are its bytes.
use Rattle.std.proofs.Common.{◌≡◌, ◌∙◌, ap, ℕ, List, [], ◌∷◌, arith}
use Rattle.field.specs.Field.{over}
use Rattle.field.proofs.Fields.{big_byte}
use Rattle.setup.specs.Layout.{task_bytes}
use Rattle.setup.proofs.Writing.{further}
use Rattle.setup.proofs.TaskRecord.write.Goals as goal

pub returns-clause-bytes : goal.returns-clause-bytes
unfolding task_bytes
returns-clause-bytes c =
    let w = c.args.w.now in
    let release : c.put.new.self.out.now ≡ over w.at (c.number.result ∷ []) w.out.now = c.put.ensures.bytes ∙ ap (λ (l : List ℕ). over w.at l w.out.now) (big_byte c.number.result (omega arith)) in
    let work = further w.at _ _ _ _ _ _ release c.put-2.ensures.bytes (omega arith) (omega arith) in
    let period = further w.at _ _ _ _ _ _ work c.put-3.ensures.bytes (omega arith) (omega arith) in
    let offset = further w.at _ _ _ _ _ _ period c.put-4.ensures.bytes (omega arith) (omega arith) in
    rw (← c.number.ensures, ← c.period.ensures, ← c.offset.ensures) offset
