-- Which device has failed where a talk stops.
use Rattle.std.specs.Prelude.{Bool, true, false, Result, Ok, Err}
use Rattle.rv_debug.specs.declared.fault.TalkFault.{TalkFault}
use Rattle.rv_debug.specs.declared.fault.TalkFault.TheVariants.{TooLong, Read, Write}

-- the fault is that the reader failed
abbrev pub is_read : TalkFault → Bool
is_read TooLong = false
is_read Read = true
is_read Write = false

-- the fault is that the writer failed
abbrev pub is_write : TalkFault → Bool
is_write TooLong = false
is_write Read = false
is_write Write = true

-- something was refused, and the fault passes the test
abbrev pub fails_by : {A : Type 0} → (TalkFault → Bool) → Result A TalkFault → Bool
fails_by test (Ok a) = false
fails_by test (Err fault) = test fault
