-- What a walk over the places of a table gives: the test of each entry with its server, and the reaches of all. Assumes nothing.
use mathlib.Core.Path.{◌≡◌, refl, ap, ◌∙◌}
use mathlib.Core.Bool.{Bool}
use mathlib.Core.List.{List, [], ◌∷◌, map}
use Prim.Native.Nat.{ℕ}
use Rattle.std.specs.List.{list_all, zip}
use Rattle.small.specs.Small.{both}
use Rattle.table.proofs.Used.{both_and}
use Rattle.table.specs.declared.Task.{Task}
use Rattle.table.specs.declared.Server.{Server}
use Rattle.state.specs.Sound.{task_reach, server_reach, task_reaches, server_reaches, eachb}
use Rattle.state.specs.declared.Entry.{Entry}

pub each_walked : (p : Server → Entry → Bool) (ss : List Server) (es : List Entry) → list_all (λ (x : Server × Entry). p x.0 x.1) (zip ss es) ≡ eachb p ss es
each_walked p [] es = refl
each_walked p (s ∷ ss) [] = refl
each_walked p (s ∷ ss) (e ∷ es) = both_and (p s e) _ ∙ ap (both (p s e)) (each_walked p ss es)

pub tasks_reached : (ts : List Task) → map task_reach ts ≡ task_reaches ts
tasks_reached [] = refl
tasks_reached (t ∷ ts) = ap (λ (l : List ℕ). task_reach t ∷ l) (tasks_reached ts)

pub servers_reached : (ss : List Server) → map server_reach ss ≡ server_reaches ss
servers_reached [] = refl
servers_reached (s ∷ ss) = ap (λ (l : List ℕ). server_reach s ∷ l) (servers_reached ss)
