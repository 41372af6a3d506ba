-- A call's tests in the document's order: the first that holds gives its refusal.
use Rattle.std.specs.Prelude.{◌≡◌, Bool, true, false, List, [], ◌∷◌, ◌++◌, ℕ}
use Rattle.small.specs.Small.{pick}
use Rattle.refusal.specs.declared.Refusal.{Refusal}

abbrev pub refused : ℕ → ℕ → Refusal
refused number place = record { number = number; place = place }

-- not refused
abbrev pub none : Refusal
none = refused 0 0

-- a refusal, and the test that gives it
pub record Check : Type 0 where
  pub refusal : Refusal
  pub holds : Bool

-- a refusal that names a place
abbrev pub check_at : ℕ → ℕ → Bool → Check
check_at number place holds = record { refusal = refused number place; holds = holds }

-- a refusal that names none
abbrev pub check : ℕ → Bool → Check
check number holds = check_at number 0 holds

-- the refusal of the first test that holds, or none
abbrev pub first_of : List Check → Refusal
first_of [] = none
first_of (c ∷ cs) = pick c.holds c.refusal (first_of cs)

-- WHAT "EXACTLY WHEN" IS SAID WITH

-- none of the tests holds
abbrev pub Passed : List Check → Type 0
Passed [] = Unit
Passed (c ∷ cs) = (c.holds ≡ false) × Passed cs

-- a check of the list that holds, and none before it
pub record First (r : Refusal) (cs : List Check) : Type 0 where
  pub before : List Check
  pub after : List Check
  pub here : cs ≡ before ++ (record { refusal = r; holds = true } ∷ after)
  pub passed : Passed before
