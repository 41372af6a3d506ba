-- `field::read` meets its contract: with a byte more, the field is a byte longer (`field_more`), and four bytes fit. Assumes nothing.
use Rattle.std.proofs.Common.{◌≡◌, ◌∙◌, ap, ℕ, List, Option, ◌≤◌, ◌^◌, drop, get_or, arith, add-one}
use Rattle.std.specs.Option.{unwrap_or}
use Rattle.std.proofs.lemmas.Grind.{pow_more}
use native.Mathlib.Nat.{pow-le-pow_right}
use Rattle.field.specs.Field.{byte_of}
use Rattle.field.proofs.Fields.{rest_from, field_more}
use Rattle.field.proofs.read.Goals as goal
use Rattle.field.proofs.read.Goals.{In-loop-k, After-from}

-- so few bytes have been read that one more fits
few : (g : _) (c : In-loop-k g) → 256 ^ c.loop-k.k ≤ 256 ^ 3
few g c =
    let h : c.loop-k.k ≤ 3 = omega (arith, g.met.T.Field.few) in
    pow-le-pow_right (omega arith) h

-- the byte that the loop reads
next : (g : _) (c : After-from g) → c.from.result ≡ byte_of c.loop-k.k (drop c.args.at c.args.s.now)
next g c =
    c.from.ensures
    ∙ c.unwrap_or.ensures
    ∙ ap (λ (o : Option ℕ). unwrap_or o 0) c.copied.ensures
    ∙ c.get.ensures.lookup.4 (omega arith) 0
    ∙ ap (λ (l : List ℕ). get_or l c.loop-k.k 0) (rw c.min.ensures (rest_from c.args.at c.args.s.now))

pub overflow_mul-n : goal.overflow_mul-n
overflow_mul-n g c = omega (arith, few g c)

pub overflow_add-n : goal.overflow_add-n
overflow_add-n g c = omega (arith, few g (goal.at.overflow_add-n g c).In-loop-k)

pub loop-k-preserved : goal.loop-k-preserved
loop-k-preserved g c =
    let bs = drop c.args.at c.args.s.now in
    let p = c.loop-k.invariant in
    (rw (add-one, field_more c.loop-k.k bs, ← p.0, next g c), omega (arith, pow_more 256 c.loop-k.k))
