-- `setup::Writer::table` meets its contract: the start's fields and the servers' bytes are written one behind the other (`further`), and together they are the
-- table's bytes.
use Rattle.std.proofs.Common.{◌≡◌, ◌∙◌, ap, ◌≤◌, ◌+◌, [], ◌∷◌, ℕ, List, length, arith}
use Rattle.field.specs.Field.{over}
use Rattle.field.proofs.Fields.{big_byte}
use Rattle.queue.specs.Limits.{longest}
use Rattle.table.specs.Limits.{entries, most_work}
use Rattle.setup.specs.Layout.{record_bytes, bytes_of}
use Rattle.setup.proofs.Writing.{further, table_length, used_most, used_fit}
use Rattle.setup.proofs.Writer.table.Goals as goal
use Rattle.setup.proofs.Writer.table.Goals.{Start}

few : (c : Start) → c.args.t.now.count ≤ entries
few c = used_most longest most_work c.args.t.now c.requires.sound

size : (c : Start) → c.args.size ≡ 4 + length (record_bytes c.args.t.now)
size c = c.requires.size ∙ table_length c.args.t.now

pub put-requires : goal.put-requires
put-requires c = omega (arith, size (goal.at.put-requires c).Start)

pub put-requires-2 : goal.put-requires-2
put-requires-2 c = omega (arith, size (goal.at.put-requires-2 c).Start)

pub overflow_cast-t : goal.overflow_cast-t
overflow_cast-t c = omega (arith, few (goal.at.overflow_cast-t c).Start)

pub put-requires-3 : goal.put-requires-3
put-requires-3 c = omega (arith, size (goal.at.put-requires-3 c).Start)

pub shared_ref_as_front-records : goal.shared_ref_as_front-records
shared_ref_as_front-records c = few (goal.at.shared_ref_as_front-records c).Start

pub records-requires-clause-fit : goal.records-requires-clause-fit
records-requires-clause-fit c = used_fit longest most_work c.args.t.now c.requires.sound

pub records-requires-clause-room : goal.records-requires-clause-room
unfolding record_bytes
records-requires-clause-room c = omega (arith, size (goal.at.records-requires-clause-room c).Start)

pub returns-clause-bytes : goal.returns-clause-bytes
unfolding bytes_of record_bytes
returns-clause-bytes c =
    let w = c.args.self.now in
    let t = c.args.t.now in
    let n = size (goal.at.returns-clause-bytes c).Start in
    let count : c.put-3.new.self.out.now ≡ over c.put-2.new.self.at (t.count ∷ []) c.put-2.new.self.out.now =
    c.put-3.ensures.bytes ∙ ap (λ (l : List ℕ). over c.put-2.new.self.at l c.put-2.new.self.out.now) (big_byte t.count (omega (arith, few (goal.at.returns-clause-bytes c).Start))) in
    let version = further w.at _ _ _ _ _ _ c.put.ensures.bytes c.put-2.ensures.bytes (omega arith) (omega (arith, n)) in
    let start = further w.at _ _ _ _ _ _ version count (omega arith) (omega (arith, n)) in
    rw (← n) (further w.at _ _ _ _ _ _ start c.records.ensures.bytes (omega arith) (omega (arith, n)))
