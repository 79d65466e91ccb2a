-- The image of a file's bytes, or why they are refused; what is listed of it.
use Rattle.std.specs.Prelude.{Result, Ok, Err, List, ℕ}
use Rattle.rv_asm.specs.Listing.{listing}
use Rattle.rv_elf.specs.Contents.{Contents}
use Rattle.rv_elf.specs.Loaded.{loaded}
use Rattle.rv_elf.specs.declared.fault.LoadFault.{LoadFault}
use Rattle.rv_memory.specs.Chain.{◌>>=◌}
use Rattle.rv_faults.specs.Fault.{unless_long}
use Rattle.rv_faults.specs.declared.fault.Fault.{Fault}
use Rattle.rv_faults.specs.declared.fault.Fault.TheVariants.{Load}

abbrev pub told_load : {A : Type 0} → Result A LoadFault → Result A Fault
told_load (Ok image) = Ok image
told_load (Err fault) = Err (Load fault)

-- the image of a file's bytes, or why they are refused: they are too many, and else the first test that they fail
unfoldable pub image_of : List ℕ → Result Contents Fault
image_of bytes = do
  whole ← unless_long bytes
  told_load (loaded whole)

-- what `list` writes of an image's bytes, or why they are refused
unfoldable pub list_text : List ℕ → Result (List ℕ) Fault
list_text bytes = do
  image ← image_of bytes
  Ok (listing image)
