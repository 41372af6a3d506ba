-- Document 01's example of a whole run: the 62 bytes that are read, and the bytes that are written. proofs/Points.antt computes the one from the other.
use Rattle.std.specs.Prelude.{List, [], ◌∷◌, ◌++◌, ℕ}

-- "Setup, 50 bytes": its length, version and number of servers; "server 0 deferrable, P 4, C 2, one task on arrival, E 3"; "server 1 idling, P 5, C 2, one
-- periodic task, E 1, T 5, O 0"
abbrev pub worked_setup : List ℕ
worked_setup =
    (0 ∷ 50 ∷ 1 ∷ 2 ∷ [])
    ++ ((2 ∷ 1 ∷ 0 ∷ 0 ∷ 0 ∷ 4 ∷ 0 ∷ 0 ∷ 0 ∷ 2 ∷ [])
    ++ ((0 ∷ 0 ∷ 0 ∷ 0 ∷ 3 ∷ 0 ∷ 0 ∷ 0 ∷ 0 ∷ 0 ∷ 0 ∷ 0 ∷ 0 ∷ [])
    ++ ((1 ∷ 1 ∷ 0 ∷ 0 ∷ 0 ∷ 5 ∷ 0 ∷ 0 ∷ 0 ∷ 2 ∷ [])
    ++ (1 ∷ 0 ∷ 0 ∷ 0 ∷ 1 ∷ 0 ∷ 0 ∷ 0 ∷ 5 ∷ 0 ∷ 0 ∷ 0 ∷ 0 ∷ []))))

-- "Messages: arrival (0, 0), run 8"
abbrev pub worked_input : List ℕ
worked_input = worked_setup ++ (0 ∷ 6 ∷ 1 ∷ 2 ∷ 0 ∷ 0 ∷ 0 ∷ 6 ∷ 1 ∷ 1 ∷ 0 ∷ 8 ∷ [])

-- "Output, whole", line by line
abbrev pub worked_output : List ℕ
worked_output =
    116 ∷ 105 ∷ 99 ∷ 107 ∷ 32 ∷ 115 ∷ 101 ∷ 114 ∷ 118 ∷ 101 ∷ 114 ∷ 32 ∷ 116 ∷ 97 ∷ 115 ∷ 107 ∷ 10
    ∷ 48 ∷ 32 ∷ 48 ∷ 32 ∷ 48 ∷ 10
    ∷ 49 ∷ 32 ∷ 48 ∷ 32 ∷ 48 ∷ 10
    ∷ 50 ∷ 32 ∷ 49 ∷ 32 ∷ 48 ∷ 10
    ∷ 51 ∷ 32 ∷ 49 ∷ 32 ∷ 45 ∷ 10
    ∷ 52 ∷ 32 ∷ 48 ∷ 32 ∷ 48 ∷ 10
    ∷ 53 ∷ 32 ∷ 49 ∷ 32 ∷ 48 ∷ 10
    ∷ 54 ∷ 32 ∷ 49 ∷ 32 ∷ 45 ∷ 10
    ∷ 55 ∷ 32 ∷ 45 ∷ 32 ∷ 45 ∷ 10
    ∷ 101 ∷ 110 ∷ 100 ∷ 32 ∷ 56 ∷ 10
    ∷ []
