-- Why the runs of a hunt, or what is told of them, were not made.
use Rattle.std.specs.Prelude.{Bool, true, false, Result, Ok, Err}
use Rattle.rv_campaign.specs.declared.pool.PoolFault.{PoolFault}
use Rattle.rv_campaign.specs.declared.pool.PoolFault.TheVariants as pool
use Rattle.rv_faults.specs.declared.fault.Fault.TheVariants as fault
use Rattle.rv_faults.specs.declared.command.CommandFault.{CommandFault}
use Rattle.rv_faults.specs.declared.command.CommandFault.TheVariants as command
use Rattle.rv_remade.specs.declared.folder.FolderFault.{FolderFault}
use Rattle.rv_remade.specs.declared.folder.FolderFault.TheVariants as folder
use Rattle.rv_hunt.specs.declared.engine.fault.MakeFault.{MakeFault}
use Rattle.rv_hunt.specs.declared.engine.fault.MakeFault.TheVariants.{NoMemory, NoThread, Write}

abbrev pub as_command : MakeFault → CommandFault
as_command NoMemory = command.Plain fault.NoMemory
as_command NoThread = command.NoThread
as_command Write = command.Plain fault.Write

abbrev pub of_pool : PoolFault → MakeFault
of_pool pool.NoMemory = NoMemory
of_pool pool.NoThread = NoThread

abbrev pub of_folder : FolderFault → MakeFault
of_folder folder.NoMemory = NoMemory
of_folder folder.Write = Write

abbrev pub no_memory : MakeFault
no_memory = NoMemory

abbrev pub write_failed : MakeFault
write_failed = Write

abbrev pub is_write : MakeFault → Bool
is_write NoMemory = false
is_write NoThread = false
is_write Write = true

-- something was not made, since a file could not be made
abbrev pub fails_by_write : {A : Type 0} → Result A MakeFault → Bool
fails_by_write (Ok a) = false
fails_by_write (Err fault) = is_write fault
