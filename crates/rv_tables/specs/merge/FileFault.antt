-- Which fault may be told of a file of a hunt, and which device it says has failed.
use Rattle.std.specs.Prelude.{◌≡◌, ⊤, Bool, false, Result, Ok, Err}
use Rattle.rv_faults.specs.Fault as plain
use Rattle.rv_faults.specs.declared.fault.Fault.{Fault}
use Rattle.rv_faults.specs.declared.fault.Fault.TheVariants as fault
use Rattle.rv_faults.specs.declared.source_lines.SourceFault.{SourceFault}
use Rattle.rv_faults.specs.declared.source_lines.SourceFault.TheVariants as source
use Rattle.rv_tables.specs.declared.fault.ReadFault.{ReadFault as TableReadFault}
use Rattle.rv_tables.specs.declared.fault.ReadFault.TheVariants as table
use Rattle.rv_tables.specs.declared.fault.TableFault.{TableFault}
use Rattle.rv_memory.specs.declared.flagged.ReadFault.{ReadFault}
use Rattle.rv_tables.specs.declared.merge.fault.FileFault.{FileFault}
use Rattle.rv_tables.specs.declared.merge.fault.FileFault.TheVariants.{Plain, Table, Ignore, Aim, Lines}
use Rattle.rv_tables.specs.declared.merge.fault.IgnoreFault.{IgnoreFault}

abbrev pub no_memory : FileFault
no_memory = Plain fault.NoMemory

abbrev pub write_failed : FileFault
write_failed = Plain fault.Write

abbrev pub fault_of_read : ReadFault → FileFault
fault_of_read given = Plain (plain.fault_of_read given)

abbrev pub fault_of_table : TableReadFault → FileFault
fault_of_table (table.Malformed fault) = Table fault
fault_of_table table.NoMemory = no_memory

-- what is wrong with a file of source lines, as a fault of a file
abbrev pub fault_of_source : SourceFault → FileFault
fault_of_source (source.Plain given) = Plain given
fault_of_source (source.Line given) = Lines given

-- a fault that any command may tell, as one of a file
abbrev pub plainly : {A : Type 0} → Result A Fault → Result A FileFault
plainly (Ok a) = Ok a
plainly (Err fault) = Err (Plain fault)

-- a table's fault, as one of its file
abbrev pub told_table : {A : Type 0} → Result A TableFault → Result A FileFault
told_table (Ok a) = Ok a
told_table (Err fault) = Err (Table fault)

-- an ignore list's fault, as one of its file
abbrev pub told_ignore : {A : Type 0} → Result A IgnoreFault → Result A FileFault
told_ignore (Ok a) = Ok a
told_ignore (Err fault) = Err (Ignore fault)

-- the fault is that the reader failed
abbrev pub is_read : FileFault → Bool
is_read (Plain fault) = plain.is_read fault
is_read (Table fault) = false
is_read (Ignore fault) = false
is_read Aim = false
is_read (Lines fault) = false

-- the fault is that the writer failed
abbrev pub is_write : FileFault → Bool
is_write (Plain fault) = plain.is_write fault
is_write (Table fault) = false
is_write (Ignore fault) = false
is_write Aim = false
is_write (Lines fault) = false

-- what is said of a file's bytes by the fault; that a device failed or memory is out says nothing of them
abbrev pub UnlessDevice : FileFault → Type 0 → Type 0
UnlessDevice (Plain fault.Read) Said = ⊤
UnlessDevice (Plain fault.Write) Said = ⊤
UnlessDevice (Plain fault.NoMemory) Said = ⊤
UnlessDevice fault Said = Said

-- the fault is the one that is told of a file's bytes
abbrev pub IsTold : {A : Type 0} → Result A FileFault → FileFault → Type 0
IsTold told fault = UnlessDevice fault (told ≡ Err fault)

-- something was refused, and the fault passes the test
abbrev pub fails_by : {A : Type 0} → (FileFault → Bool) → Result A FileFault → Bool
fails_by test (Ok a) = false
fails_by test (Err fault) = test fault
