-- How long what is written of a number is: what the check looks for where a text has room. Assumes nothing.
use Prim.Native.Nat.{ℕ, ◌≤◌}
use lib.ListN.{length, length-append}
use Rattle.lines.specs.Decimal.{most_digits, decimal}
use Rattle.lines.proofs.Decimals.{decimal_length}
use Rattle.lines.proofs.DecimalLaws.{decimal_one}

pub decimal_most : (n : ℕ) → length (decimal n) ≤ most_digits
decimal_most n = (decimal_length n).1

pub ruleset lengths = (decimal_most, decimal_one, length-append)
