-- A reader or a writer: the device that is wrapped, and whether it has failed.
use Rattle.std.specs.Prelude.{ℕ, Bool, true, false, ◌&&◌, ◌==◌, nat_lt, List, length, Result, Ok, Err}
use Rattle.rv_memory.specs.declared.flagged.Flagged.{Flagged}
use Rattle.rv_memory.specs.declared.flagged.ReadFault.{ReadFault}
use Rattle.rv_memory.specs.declared.flagged.ReadFault.TheVariants.{Read, TooLong, NoMemory}

-- the reader or writer that is wrapped
abbrev pub device : {T : Type 0} → Flagged T → T
device f = f.device

-- whether it has answered an error, or has taken none of some bytes
abbrev pub has_failed : {T : Type 0} → Flagged T → Bool
has_failed f = f.failed

-- a write answered an error, or took none of some bytes
abbrev pub is_refused : {E : Type 0} → Result ℕ E → List ℕ → Bool
is_refused (Ok count) bytes = count == 0 && nat_lt 0 (length bytes)
is_refused (Err error) bytes = true

-- reading to the end was ended by an error of the reader
abbrev pub is_read_fault : {A : Type 0} → Result A ReadFault → Bool
is_read_fault (Ok bytes) = false
is_read_fault (Err Read) = true
is_read_fault (Err TooLong) = false
is_read_fault (Err NoMemory) = false
