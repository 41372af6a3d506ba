-- `is_zero` of a server meets its contract: the derived test asks each part, the tasks place by place.
use mathlib.Core.Path.{◌≡◌, refl, ap, ◌∙◌}
use mathlib.Core.Bool.{Bool, true, false}
use mathlib.Core.List.{List, [], ◌∷◌}
use Prim.Native.Nat.{ℕ, zero, suc}
use native.Mathlib.Omega.{arith}
use lib.Dec.{eqb}
use lib.ListN.{length, replicate}
use lib.Pointwise.{pointwise}
use Rattle.std.specs.Prelude.{◌&&◌}
use Rattle.std.proofs.Common.{rules, tests}
use Rattle.small.specs.Small.{both, usedb}
use Rattle.table.specs.Limits.{entries}
use Rattle.table.specs.Table.{zero_task}
use Rattle.table.specs.Sound.{zero_taskb}
use Rattle.table.specs.declared.Task.{Task}
use Rattle.table.proofs.Used.{both_and}
use Rattle.table.proofs.ServerPart.is_zero.Goals as goal

-- the tasks
all_zero : (same : Task → Task → Bool) → ((t : Task) → same t zero_task ≡ zero_taskb t) → (ts : List Task) (n : ℕ) → length ts ≡ n
    → pointwise same ts (replicate n zero_task) ≡ usedb zero_taskb zero_taskb ts 0
all_zero same is [] zero e = refl
all_zero same is [] (suc n) e = absurd (omega arith)
all_zero same is (t ∷ ts) zero e = absurd (omega arith)
all_zero same is (t ∷ ts) (suc n) e = both_and (same t zero_task) _ ∙ ap (λ (b : Bool). both b (pointwise same ts (replicate n zero_task))) (is t) ∙ ap (both (zero_taskb t)) (all_zero same is ts n (omega arith))

-- in the definition's order
in_order : (p n k d b : Bool) → p && (n && (k && (d && b))) ≡ both k (both d (both b (both n p)))
in_order true true true true true = refl
in_order true true true true false = refl
in_order true true true false b = refl
in_order true true false d b = refl
in_order true false true true true = refl
in_order true false true true false = refl
in_order true false true false b = refl
in_order true false false d b = refl
in_order false true true true true = refl
in_order false false true true true = refl
in_order false n true true false = refl
in_order false n true false b = refl
in_order false n false d b = refl

pub returns : goal.returns
returns c =
    let s = c.args.self.now in
    let full : length s.tasks ≡ entries = omega arith in
    rw c.zero.ensures at c.eq.ensures ∙ in_order _ (eqb s.count 0) (eqb s.kind 0) (eqb s.period.0 0) (eqb s.budget.0 0)
    ∙ ap (λ (b : Bool). both (eqb s.kind 0) (both (eqb s.period.0 0) (both (eqb s.budget.0 0) (both (eqb s.count 0) b)))) (all_zero _ (λ t. search (rules, tests)) s.tasks entries full)
