-- What holds of loading and writing together.
use Rattle.std.specs.Prelude.{◌≡◌, Ok}
use Rattle.rv_elf.specs.Contents.{Contents, IsImage}
use Rattle.rv_elf.specs.Loaded.{loaded}
use Rattle.rv_elf.specs.Written.{written}

-- the file of an image loads as the image
abbrev pub LoadsAgain : Type 0
LoadsAgain = (image : Contents) → IsImage image → loaded (written image) ≡ Ok image
