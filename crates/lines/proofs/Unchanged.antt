-- "Writers leave bytes past the output unchanged": what a text that is put into a buffer from a place on changes there, and that nothing is changed where it does
-- not fit. Assumes nothing.
use mathlib.Core.Path.{◌≡◌}
use mathlib.Core.List.{List, ◌++◌}
use Prim.Native.Nat.{ℕ, ◌+◌, ◌≤◌, ◌<◌}
use lib.ListN.{length, take, drop}
use borrow.Author.Tests.{lt-ltb, le-ltb}
use Rattle.field.specs.Field.{over}
use Rattle.field.proofs.Fields.{over_fits, over_past}
use Rattle.lines.specs.Lines.{put_of}

module _ (at : ℕ) (text buf : List ℕ) where
  -- "zero in every other part": refused, no byte is written, and the buffer is as it was
  pub put_refused : length buf < at + length text → ((put_of at text buf).length ≡ 0) × (over at text buf ≡ buf)
  put_refused h = (rw (lt-ltb (length buf) (at + length text) h), over_past at text buf h)

  -- else the text stands from the place on. "Writers leave bytes past the output unchanged", and before it
  pub put_whole : at + length text ≤ length buf
      → ((put_of at text buf).length ≡ length text) × (over at text buf ≡ take at buf ++ (text ++ drop (at + length text) buf))
  put_whole h = (rw (le-ltb (length buf) (at + length text) h), over_fits at text buf h)
