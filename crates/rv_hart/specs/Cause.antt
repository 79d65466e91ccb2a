-- The numbers of the causes for which a hart stops.
use Rattle.std.specs.Prelude.{ℕ}
use Rattle.rv_hart.specs.declared.hart.Cause.{Cause}
use Rattle.rv_hart.specs.declared.hart.Cause.TheVariants.{TargetMisaligned, FetchFault, Illegal, Breakpoint, LoadMisaligned, LoadFault, StoreMisaligned, StoreFault, UnknownCall}

-- the number of a cause (this project's own)
abbrev pub number : Cause → ℕ
number TargetMisaligned = 0
number FetchFault = 1
number Illegal = 2
number Breakpoint = 3
number LoadMisaligned = 4
number LoadFault = 5
number StoreMisaligned = 6
number StoreFault = 7
number UnknownCall = 8
