-- The kinds of a server, each with the document's number, named once for the definitions; the enum `Kind` names them for the code.
use Rattle.std.specs.Prelude.{ℕ}

-- "idling (kind 1), or deferrable (kind 2)"
abbrev pub idling_kind : ℕ
idling_kind = 1

abbrev pub deferrable_kind : ℕ
deferrable_kind = 2

-- polling: "Kind 3 wants a tick as kind 2 does." (document 02, #101)
abbrev pub polling_kind : ℕ
polling_kind = 3
