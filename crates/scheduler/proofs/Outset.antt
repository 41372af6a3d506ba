-- What the check of a state answers: a state that is not sound is refused, and each call says so. Assumes nothing.
use mathlib.Core.Path.{◌≡◌, refl, ap, ◌∙◌}
use mathlib.Core.Bool.{Bool, true, false}
use Rattle.std.specs.Prelude.{Result, Ok, Err, ⊤}
use Rattle.std.specs.Result.{IsErrAnd}
use Rattle.std.proofs.lemmas.Result.{err_from_is_err_and}
use Rattle.small.specs.Small.{pick}
use Rattle.refusal.specs.declared.Reason.{Reason}
use Rattle.refusal.specs.declared.Reason.TheVariants.{Unsound}
use Rattle.state.specs.Sound.{stateb}
use Rattle.state.specs.declared.State.{State}
use Rattle.scheduler.specs.Moves.{checked_of}

module _ (s : State) where
  pub checked_ok : {x : ⊤} → Ok x ≡ checked_of s → stateb s ≡ true
  checked_ok {x} e = go (stateb s) refl e
    where
      go : (b : Bool) → stateb s ≡ b → Ok x ≡ pick b (Ok tt) (Err Unsound) → stateb s ≡ true
      go true p e = p
      go false p e = let q : ⊥ = cc in absurd q

  checked_err : {r : Reason} → Err r ≡ checked_of s → (r ≡ Unsound) × (stateb s ≡ false)
  checked_err {r} e = go (stateb s) refl e
    where
      go : (b : Bool) → stateb s ≡ b → ◌≡◌ {A = Result ⊤ Reason} (Err r) (pick b (Ok tt) (Err Unsound)) → (r ≡ Unsound) × (stateb s ≡ false)
      go true p e = let q : ⊥ = cc in absurd q
      go false p e = let q : r ≡ Unsound = cc in (q, p)

  -- what `?` hands on
  pub handed_on : {A : Type 0} (o : Result A Reason) (r : Reason) → Err r ≡ checked_of s → IsErrAnd o (λ y. y ≡ r) → (o ≡ Err Unsound) × (stateb s ≡ false)
  handed_on o r e h =
      let y = err_from_is_err_and o h in
      let c = checked_err e in
      (y.1 ∙ ap Err (y.2 ∙ c.0), c.1)
