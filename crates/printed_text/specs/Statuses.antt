-- The statuses of a process, and their numbers.
use Rattle.std.specs.Prelude.{◌≡◌, ◌⊎◌, ◌<◌, ℕ, List, [], ◌∷◌}
use Rattle.served_lines.specs.fault_count.specs.Counts.{HasRisen}
use Rattle.printed_text.specs.declared.exit_status.ExitStatus.{ExitStatus}
use Rattle.printed_text.specs.declared.exit_status.ExitStatus.TheVariants as statuses

abbrev pub number_of : ExitStatus → ℕ
number_of statuses.Done = 0
number_of statuses.No = 1
number_of statuses.Words = 2
number_of statuses.Source = 3
number_of statuses.Sink = 4
number_of statuses.Disk = 5
number_of statuses.Form = 6
number_of statuses.Limit = 7
number_of statuses.Unsound = 8
number_of statuses.Memory = 9

-- the number of a status of which this holds
pub record IsNumberOf (Holds : ExitStatus → Type 0) (number : ℕ) : Type 0 where
  pub status : ExitStatus
  pub number_is : number ≡ number_of status
  pub holds : Holds status

-- the status is one of these
abbrev pub IsOneOf : List ExitStatus → ExitStatus → Type 0
IsOneOf [] status = ⊥
IsOneOf (one ∷ rest) status = (status ≡ one) ⊎ IsOneOf rest status

-- the status tells of the sink wherever its count of faults rose, and only where it rose or stands at its last value
pub record TellsSinkFault (before now : ℕ) (status : ExitStatus) : Type 0 where
  pub risen : status ≡ statuses.Sink → HasRisen before now
  pub told : before < now → status ≡ statuses.Sink
