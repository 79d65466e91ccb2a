use Rattle.std.specs.Prelude.{Option, Result, Ok, Err}
use Rattle.rv_hart.specs.declared.access.Access.{Access}
use Rattle.rv_hart.specs.declared.access.Event.{Event}
use Rattle.rv_hart.specs.declared.access.Event.TheVariants.{Moved}
use Rattle.rv_hart.specs.declared.machine.StepFault.{StepFault}
use Rattle.rv_waits.specs.declared.quiet.Told.{Told}
use Rattle.rv_waits.specs.declared.quiet.Told.TheVariants.{Quiet, Loud, Refused}

-- what the machine answered
abbrev pub answer_of : Told → Result Event StepFault
answer_of (Quiet access) = Ok (Moved access)
answer_of (Loud event) = Ok event
answer_of (Refused fault) = Err fault

-- so, where it was told as a quiet one
abbrev pub IfQuiet : Told → (Option Access → Type 0) → Type 0
IfQuiet (Quiet access) P = P access
IfQuiet (Loud event) P = Unit {0}
IfQuiet (Refused fault) P = Unit {0}
