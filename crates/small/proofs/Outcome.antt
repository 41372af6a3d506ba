-- ONE OUTCOME: any two outcomes that a function's contract allows are equal. Stated over the contracts themselves: of a function f, `Post` of its
-- generated `Reads` is what the contract says of the arguments, the result and the parameters as they are at exit. Assumes nothing.
use mathlib.Core.Path.{◌≡◌, sym, ◌∙◌}

-- what is seen of an outcome is the same in any two that the contract allows
abbrev pub One : {K : Type 0} {A X E : K → Type 0} {B : Type 0} → ((κs : K) → A κs → X κs → E κs → Type 0) → ((κs : K) → X κs → E κs → B) → Type 0
One {K = K} {A = A} {X = X} {E = E} allows seen = (κs : K) (a : A κs) (x y : X κs) (e f : E κs) → allows κs a x e → allows κs a y f → seen κs x e ≡ seen κs y f

pub same : {A : Type 0} {x y z : A} → x ≡ z → y ≡ z → x ≡ y
same p q = p ∙ sym q
