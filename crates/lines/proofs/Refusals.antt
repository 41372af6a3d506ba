-- "Given exactly when", for every text that is put into a buffer from a place on: the header, a message's line, the lines of a batch and the end
-- (`header`, `message_line`, `ticks` and `end` answer `put_of` and leave `over` of their text). Assumes nothing.
use mathlib.Core.Path.{◌≡◌, refl}
use mathlib.Core.List.{List}
use mathlib.Core.Logic.{◌↔◌}
use Prim.Native.Nat.{ℕ, ◌+◌, ◌≤◌, ◌<◌}
use lib.ListN.{length}
use borrow.Author.Tests.{lt-ltb, le-ltb, ltb-true, ltb-false}
use Rattle.refusal.specs.Numbers.{buffer_short}
use Rattle.refusal.specs.Refusal.{first_of}
use Rattle.refusal.proofs.Exactly.{number_when, none_when, no_place}
use Rattle.field.proofs.Answers.{written_number, written_place}
use Rattle.lines.specs.Lines.{put_checks, put_of}

module _ (at : ℕ) (text buf : List ℕ) where
  put_number : (put_of at text buf).refusal.number ≡ (first_of (put_checks at text (length buf))).number
  put_number = written_number (first_of (put_checks at text (length buf))) text

  -- "buffer too short for what is written"
  pub put_32 : (put_of at text buf).refusal.number ≡ buffer_short ↔ (length buf < at + length text)
  put_32 =
      number_when _ (put_checks at text (length buf)) put_number 0 refl refl
      (λ h. ltb-true (length buf) (at + length text) h.1)
      (λ h. (tt, lt-ltb (length buf) (at + length text) h))

  -- and no refusal exactly when it fits
  pub put_accepted : (put_of at text buf).refusal.number ≡ 0 ↔ (at + length text ≤ length buf)
  put_accepted =
      none_when _ (put_checks at text (length buf)) put_number refl
      (λ h. ltb-false (length buf) (at + length text) h.0)
      (λ h. (le-ltb (length buf) (at + length text) h, tt))

  -- "the place (0 where none is named below)"
  pub put_place : (put_of at text buf).refusal.place ≡ 0
  put_place = written_place (first_of (put_checks at text (length buf))) text (no_place (put_checks at text (length buf)) refl)
