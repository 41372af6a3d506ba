-- `queue::Queue::clear` meets its contract: what is filled is a run of stores.
use Rattle.std.proofs.Common.{◌≡◌, refl, sym, ◌∙◌, ◌-◌, drop, length, length-drop, arith}
use Rattle.std.proofs.lemmas.List.{take_all}
use Rattle.std.proofs.lemmas.Slice.{put_mid-paste}
use lib.ListN.{replicate, length-replicate}
use lib.Seq.{length-take-le, sets-eq}
use Rattle.queue.specs.Row.{cell}
use Rattle.queue.proofs.Queue.clear.Goals as goal

pub returns : goal.returns
returns c =
    let q = c.args.self.now in
    let k = c.args.end - q.len in
    let zs = replicate k (cell 0 0) in
    let n : length zs ≡ k = length-replicate k (cell 0 0) in
    let m : c.fill.new.self ≡ zs =
    c.fill.ensures.after (λ y e. e) ∙ rw (length-take-le k (drop q.len q.cells) (rw length-drop (omega arith))) in
    let s = sets-eq zs q.cells q.len (omega arith) in
    let e = put_mid-paste q.len k q.cells c.fill.new.self zs k m refl (sym n) in
    let f = e ∙ rw (take_all k zs (omega arith)) (sym (s ∙ rw n)) in
    λ i. record { cells = f i; len = q.len }
