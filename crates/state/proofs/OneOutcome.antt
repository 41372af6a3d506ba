-- ONE OUTCOME: any two outcomes that a public call's contract allows are equal. Stated over the contracts themselves: `f.Post κs a r e` is what the
-- contract of `f` says of the arguments a, the result r and the parameters e as they are at exit. What the contract says of an outcome, seen as an answer,
-- tells the outcome. Assumes nothing.
use Rattle.small.proofs.Outcome.{One, same}
use Rattle.state.proofs.Places.{made_one}
use Rattle.state.proofs.State.fresh.Reads as fresh
use Rattle.state.proofs.State.is_sound.Reads as is-sound
use Rattle.state.proofs.Entry.first_pending.Reads as first-pending
use Rattle.state.proofs.State.chosen.Reads as chosen
use Rattle.state.proofs.Entry.gives_up.Reads as gives-up
use Rattle.state.proofs.Entry.give_up.Reads as give-up
use Rattle.state.proofs.LoadPart.is_sound.Reads as load-is_sound
use Rattle.state.proofs.LoadPart.is_zero.Reads as load-is_zero

pub fresh_one : One fresh.Post (λ κs x e. x)
fresh_one κs a x y e f p q = made_one a.0.now x y (same p q)

pub sound_one : One is-sound.Post (λ κs x e. x)
sound_one κs a x y e f p q = same p q

pub first_pending_one : One first-pending.Post (λ κs x e. x)
first_pending_one κs a x y e f p q = same p q

pub chosen_one : One chosen.Post (λ κs x e. x)
chosen_one κs a x y e f p q = same p q

pub gives_up_one : One gives-up.Post (λ κs x e. x)
gives_up_one κs a x y e f p q = same p q

pub give_up_one : One give-up.Post (λ κs x e. e.0.now)
give_up_one κs a x y e f p q = same p q

pub load_sound_one : One load-is_sound.Post (λ κs x e. x)
load_sound_one κs a x y e f p q = same p q

pub load_zero_one : One load-is_zero.Post (λ κs x e. x)
load_zero_one κs a x y e f p q = same p q
