-- Why no desk is opened for a trial.
use Rattle.lane_runner.specs.bureau_desk.specs.declared.desk_refused.DeskCause.{DeskCause}
use Rattle.lane_runner.specs.bureau_desk.specs.declared.desk_refused.DeskCause.TheVariants as causes

-- there was no memory, or the disk failed
abbrev pub IsWant : DeskCause → Type 0
IsWant causes.Memory = Unit {0}
IsWant (causes.Device before after) = Unit {0}
IsWant _ = ⊥
