-- Laws of tests: two that hold, one of two, neither, and one that both holds and does not. Assumes nothing.
use mathlib.Core.Path.{◌≡◌, refl, sym}
use mathlib.Core.Bool.{Bool, true, false}
use Prim.Native.Nat.{ℕ}
use native.Mathlib.Omega.{arith}
use Rattle.small.specs.Small.{pick, both}

pub both_left : (a b : Bool) → both a b ≡ true → a ≡ true
both_left true b e = refl
both_left false b e = e

pub both_right : (a b : Bool) → both a b ≡ true → b ≡ true
both_right true b e = e
both_right false b e = cc

pub both_true : (b : Bool) → both b true ≡ b
both_true true = refl
both_true false = refl

pub both_false : (b : Bool) → both b false ≡ false
both_false true = refl
both_false false = refl

pub both_swap : (a b : Bool) → both a b ≡ both b a
both_swap true b = sym (both_true b)
both_swap false b = sym (both_false b)

-- one of two tests holds
pub either_true : (b : Bool) → pick b true true ≡ true
either_true true = refl
either_true false = refl

pub either_false : (b : Bool) → pick b true false ≡ b
either_false true = refl
either_false false = refl

-- neither of two tests holds
pub neither_left : (a b : Bool) → pick a true b ≡ false → a ≡ false
neither_left true b e = e
neither_left false b e = refl

pub neither_right : (a b : Bool) → pick a true b ≡ false → b ≡ false
neither_right true b e = cc
neither_right false b e = e

-- a test that is both true and false
pub contrary {ℓ} : {A : Type ℓ} {b : Bool} → b ≡ true → b ≡ false → A
contrary p q = let z : ◌≡◌ {A = ℕ} 0 1 = cc in absurd (omega arith)
