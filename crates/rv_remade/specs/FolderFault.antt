-- Why a folder takes no file.
use Rattle.std.specs.Prelude.{Bool, true, false, Result, Ok, Err}
use Rattle.rv_remade.specs.declared.folder.FolderFault.{FolderFault}
use Rattle.rv_remade.specs.declared.folder.FolderFault.TheVariants.{NoMemory, Write}

abbrev pub is_write : FolderFault → Bool
is_write NoMemory = false
is_write Write = true

-- something was refused, and not for want of memory
abbrev pub fails_by_write : {A : Type 0} → Result A FolderFault → Bool
fails_by_write (Ok a) = false
fails_by_write (Err fault) = is_write fault
