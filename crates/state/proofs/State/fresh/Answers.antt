-- `State::fresh` meets its contract: the array of entries is made of the servers (proofs/Freshly.antt).
use mathlib.Core.Path.{◌≡◌, sym, ◌∙◌}
use native.Mathlib.Omega.{arith}
use lib.ListN.{length}
use Rattle.std.proofs.Common.{rules}
use Rattle.table.specs.Limits.{entries}
use Rattle.table.proofs.Sizes.{past_server}
use Rattle.state.specs.Fresh.{fresh_entry, fresh_entries, fresh_state, fresh_of}
use Rattle.state.proofs.Freshly.{made_map, entries_made}
use Rattle.state.proofs.State.fresh.Goals as goal

pub returns-then-not-is_sound : goal.returns-then-not-is_sound
unfolding fresh_of
returns-then-not-is_sound c =
    simp (sym c.is_sound.ensures ∙ c.if-not-is_sound.true)

pub returns : goal.returns
unfolding fresh_of fresh_state
returns c =
    let ss = c.args.table.now.servers in
    let full : length ss ≡ entries = omega arith in
    let made : c.from_fn.result ≡ fresh_entries ss = made_map _ fresh_entry ss past_server c.from_fn.ensures.items full (λ i y q m k. (search rules, search rules)) ∙ entries_made ss in
    simp (sym c.is_sound.ensures ∙ c.if-not-is_sound.false, made, c.first_events.ensures)
