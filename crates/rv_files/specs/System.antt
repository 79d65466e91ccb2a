-- What the system says of a file or a stream that fails.
use Rattle.std.specs.Prelude.{ℕ, Option, Some, None, List, codes}
use Rattle.std.specs.declared.io.ErrorKind.{ErrorKind}
use Rattle.std.specs.declared.io.ErrorKind.TheVariants as kind
use Rattle.rv_files.specs.declared.system.SystemSaid.{SystemSaid}
use Rattle.rv_files.specs.declared.system.SystemSaid.TheVariants.{Missing, Denied, IsFolder, NoFolder, ReadOnly, Full, TooLarge, Closed}

-- what of an error's kinds a user can mend
abbrev pub said_of : ErrorKind → Option SystemSaid
said_of kind.NotFound = Some Missing
said_of kind.PermissionDenied = Some Denied
said_of kind.IsADirectory = Some IsFolder
said_of kind.NotADirectory = Some NoFolder
said_of kind.ReadOnlyFilesystem = Some ReadOnly
said_of kind.StorageFull = Some Full
said_of kind.QuotaExceeded = Some Full
said_of kind.FileTooLarge = Some TooLarge
said_of kind.BrokenPipe = Some Closed
said_of _ = None

abbrev pub sentence : SystemSaid → List ℕ
sentence Missing = codes "there is no such file or folder"
sentence Denied = codes "there is no permission"
sentence IsFolder = codes "it is a folder, and no file"
sentence NoFolder = codes "a part of the path is no folder"
sentence ReadOnly = codes "the file system is read-only"
sentence Full = codes "there is no space left"
sentence TooLarge = codes "the system takes no larger file"
sentence Closed = codes "what reads the output has ended"
