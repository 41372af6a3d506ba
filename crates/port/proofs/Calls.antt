-- What `array::from_fn` gives, where each call gives what a function of its index does and keeps what it needs. Assumes nothing.
use Rattle.std.proofs.Common.{◌≡◌, ℕ, zero, suc, ◌+◌, ◌<◌, List, get_or, arith, ◌∙◌}
use denote.Param.Members.{Mut, Called}
use Rattle.std.specs.Array.{IsFromFnResultFrom}

module _ {F B : Type 0} (g : Mut F (ℕ × Unit {0}) B) (P : F → Type 0) (h : ℕ → B)
    (step : (f : F) (i : ℕ) (y : B) (q : F) → P f → Called g f (i, tt) y q → (y ≡ h i) × P q) where
  pub from_each : (f : F) (ys : List B) (i n k : ℕ) (d : B) → P f → IsFromFnResultFrom g f ys i n → k < n → get_or ys (i + k) d ≡ h (i + k)
  from_each f ys i zero k d p r l = absurd (omega arith)
  from_each f ys i (suc n) zero d p (q, y, e, c, r) l = rw (let z : i + 0 ≡ i = omega arith in z) (e.1 d ∙ (step f i y q p c).0)
  from_each f ys i (suc n) (suc k) d p (q, y, e, c, r) l =
      let z : i + suc k ≡ (i + 1) + k = omega arith in
      rw z (from_each q ys (i + 1) n k d (step f i y q p c).1 r (omega arith))
