-- A list of entries in use, filled up. Over any elements. Assumes nothing.
use mathlib.Core.Path.{◌≡◌, sym, ◌∙◌}
use mathlib.Core.List.{List, [], ◌∷◌, ◌++◌, append_assoc}
use Prim.Native.Nat.{ℕ, suc, ◌+◌, ◌-◌, ◌≤◌, ◌<◌}
use native.Mathlib.Omega.{arith}
use lib.ListN.{length, take, drop, get_or, set, replicate, length-append, length-drop, length-replicate, get_or-replicate, take-append-drop, get_or-append}
use lib.Seq.{length-take-le, get_or-drop, get_or-append-add, ext_get_or, set-append_seam, take-append_seam}
use Rattle.small.specs.Small.{padded}

module _ {A : Type 0} (z : A) (n : ℕ) (xs : List A) where
  -- a row whose other entries are z is its entries in use, filled up
  pub padded_take : n ≤ length xs → ((i : ℕ) → n ≤ i → i < length xs → get_or xs i z ≡ z) → padded z (length xs) (take n xs) ≡ xs
  padded_take l h =
      let m = length xs - n in
      let d : length (drop n xs) ≡ m = length-drop n xs in
      let e : drop n xs ≡ replicate m z =
      ext_get_or z (drop n xs) (replicate m z) (d ∙ sym (length-replicate m z)) λ i k. get_or-drop n xs i z ∙ h (n + i) (omega arith) (omega arith) ∙ sym (get_or-replicate m i z z (omega arith)) in
      rw (length-take-le n xs l, ← e) (take-append-drop n xs)

  module _ (l : length xs ≤ n) where
    pub padded_length : length (padded z n xs) ≡ n
    padded_length = simp (length-append, length-replicate) (omega arith)

    pub padded_used : (i : ℕ) → i < length xs → get_or (padded z n xs) i z ≡ get_or xs i z
    padded_used i h = get_or-append xs (replicate (n - length xs) z) z i h

    pub padded_unused : (i : ℕ) → length xs ≤ i → i < n → get_or (padded z n xs) i z ≡ z
    padded_unused i h m =
        let e : i ≡ length xs + (i - length xs) = omega arith in
        rw e (get_or-append-add xs (replicate (n - length xs) z) (i - length xs) z ∙ get_or-replicate (n - length xs) (i - length xs) z z (omega arith))

module _ {ℓ} {A : Type ℓ} (z : A) (n : ℕ) (xs : List A) where
  -- one element more, stored behind the last
  pub padded_push : (x : A) → length xs < n → set (padded z n xs) (length xs) x ≡ padded z n (xs ++ (x ∷ []))
  padded_push x h =
      let e : n - length xs ≡ suc (n - suc (length xs)) = omega arith in
      let f : n - length (xs ++ (x ∷ [])) ≡ n - suc (length xs) = simp length-append (omega arith) in
      rw (e, f, append_assoc) (set-append_seam xs z (replicate (n - suc (length xs)) z) x)

  pub take_padded : take (length xs) (padded z n xs) ≡ xs
  take_padded = take-append_seam xs _
