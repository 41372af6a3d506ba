-- ONE OUTCOME: any two outcomes that a public function's contract allows are equal. Stated over the contracts themselves: `f.Post κs a r e` is what the
-- contract of `f` says of the arguments a, the result r and the parameters e as they are at exit. Assumes nothing.
use Rattle.small.proofs.Outcome.{One, same}
use mir.Syntax.{Dict}
use denote.RattleType.{RattleType}
use denote.Param.Laws.{Laws}
use Rattle.table.specs.Table.{ticks}
use Rattle.table.specs.declared.Part.{Ghosts}
use Rattle.table.proofs.Table.is_sound.Reads as table-is_sound
use Rattle.table.proofs.Server.known_kind.Reads as known-kind
use Rattle.table.proofs.Kind.number.Reads as kind-number
use Rattle.table.proofs.Release.number.Reads as release-number
use Rattle.table.proofs.Release.is_periodic.Reads as is-periodic
use Rattle.table.proofs.Release.period.Reads as period-of
use Rattle.table.proofs.Release.offset.Reads as offset-of
use Rattle.table.proofs.Table.zero.Reads as zero-table
use Rattle.table.proofs.Server.zero.Reads as zero_server_lem
use Rattle.table.proofs.Task.zero.Reads as zero_task_lem
use Rattle.table.proofs.in_use.Reads as in-use
use Rattle.table.proofs.in_range.Reads as in-range
use Rattle.table.proofs.KindTryFromU8.try_from.Reads as kind-try_from
use Rattle.table.proofs.ServerPart.is_sound.Reads as server-is_sound
use Rattle.table.proofs.TaskPart.is_sound.Reads as task-is_sound
use Rattle.table.proofs.ServerPart.is_zero.Reads as server-is_zero
use Rattle.table.proofs.TaskPart.is_zero.Reads as task-is_zero

pub table_one : One table-is_sound.Post (λ κs x e. x)
table_one κs a x y e f p q = same p q

pub server_sound_one : One server-is_sound.Post (λ κs x e. x)
server_sound_one κs a x y e f p q = same p q

pub task_sound_one : One task-is_sound.Post (λ κs x e. x)
task_sound_one κs a x y e f p q = same p q

pub server_zero_one : One server-is_zero.Post (λ κs x e. x)
server_zero_one κs a x y e f p q = same p q

pub task_zero_one : One task-is_zero.Post (λ κs x e. x)
task_zero_one κs a x y e f p q = same p q

pub known_kind_one : One known-kind.Post (λ κs x e. x)
known_kind_one κs a x y e f p q = same p q

pub kind_number_one : One kind-number.Post (λ κs x e. x)
kind_number_one κs a x y e f p q = same p q

pub kind_try_from_one : One kind-try_from.Post (λ κs x e. x)
kind_try_from_one κs a x y e f p q = same p q

pub in_range_one : One in-range.Post (λ κs x e. x)
in_range_one κs a x y e f p q = same p q

pub release_number_one : One release-number.Post (λ κs x e. x)
release_number_one κs a x y e f p q = same p q

pub is_periodic_one : One is-periodic.Post (λ κs x e. x)
is_periodic_one κs a x y e f p q = same p q

pub period_of_one : One period-of.Post (λ κs x e. x)
period_of_one κs a x y e f p q = λ i. ticks (same p q i)

pub offset_of_one : One offset-of.Post (λ κs x e. x)
offset_of_one κs a x y e f p q = λ i. ticks (same p q i)

pub zero_table_one : One zero-table.Post (λ κs x e. x)
zero_table_one κs a x y e f p q = same p q

pub zero_server_one : One zero_server_lem.Post (λ κs x e. x)
zero_server_one κs a x y e f p q = same p q

pub zero_task_one : One zero_task_lem.Post (λ κs x e. x)
zero_task_one κs a x y e f p q = same p q

-- over any type of entries T
pub in_use_one : (T : RattleType) (laws : Laws T) (part : Ghosts T.Denot) (dict : Dict) → One (in-use.Post T laws part dict) (λ κs x e. x)
in_use_one T laws part dict κs a x y e f p q = same p q
