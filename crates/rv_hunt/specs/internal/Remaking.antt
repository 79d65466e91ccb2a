-- What `show` has of its files before runs are made again, and why it goes no further.
use Rattle.std.specs.Prelude.{◌≡◌, ⊤, ◌⊎◌, ℕ, Option, Some, Ok, List, length, IsOkAnd}
use Rattle.rv_campaign.specs.declared.pool.PoolFault.{PoolFault}
use Rattle.rv_elf.specs.Contents.{Contents}
use Rattle.rv_faults.specs.SourceFile as source
use Rattle.rv_faults.specs.SourceFile.{source_in}
use Rattle.rv_tables.specs.merge.Ignore.{naming_of}
use Rattle.rv_lines.specs.SourceLines.{SourceLine}
use Rattle.rv_faults.specs.declared.fault.Fault.TheVariants as plain
use Rattle.rv_faults.specs.declared.command.CommandFault.{CommandFault}
use Rattle.rv_faults.specs.declared.command.CommandFault.TheVariants as fault
use Rattle.rv_hunt.specs.GivenRuns.{RunsGiven, given_in}
use Rattle.rv_search.specs.Hunt.{Hunt}
use Rattle.rv_tables.specs.Origin.{words_in}
use Rattle.rv_hunt.specs.declared.engine.fault.HuntFault.TheVariants.{Command, Ignored, Expected, Aimed, Lines}
use Rattle.rv_hunt.specs.declared.engine.fault.MakeFault.{MakeFault}
use Rattle.rv_remade.specs.declared.folder.FolderFault.{FolderFault}
use Rattle.rv_hunt.specs.declared.engine.lists.Lists.{Lists}
use Rattle.rv_hunt.specs.declared.engine.opening.Listed.{Listed}
use Rattle.rv_hunt.specs.declared.engine.remaking.RemakeFault.{RemakeFault}
use Rattle.rv_hunt.specs.declared.engine.remaking.RemakeFault.TheVariants as remake
use Rattle.rv_hunt.specs.declared.engine.show.ShowFault.{ShowFault}
use Rattle.rv_hunt.specs.declared.engine.show.ShowFault.TheVariants.{Table, Hunt as OfHunt}
use Rattle.rv_hunt.specs.declared.engine.tabled.ShownTable.{ShownTable}
use Rattle.rv_tables.specs.declared.fault.TableKind.TheVariants as kind
use Rattle.rv_tables.specs.declared.merge.fault.FileFault.{FileFault}
use Rattle.rv_tables.specs.declared.merge.fault.FileFault.TheVariants as file_fault
use Rattle.rv_shown.specs.Asked.{Asked}
use Rattle.rv_hunt.specs.engine.Hunting.{expected_in, ignored_in}
use Rattle.rv_hunt.specs.engine.TableShown.{TableShown, asked_by, last_fault}
use Rattle.rv_hunt.specs.internal.MakeFault as make
use Rattle.rv_hunt.specs.internal.Opened.{hunt_by, hunt_with}
use Rattle.rv_tables.specs.merge.FileFault as file

-- ---- the faults

abbrev pub of_make : MakeFault → ShowFault
of_make given = OfHunt (Command (make.as_command given))

abbrev pub of_pool : PoolFault → ShowFault
of_pool given = of_make (make.of_pool given)

abbrev pub no_memory : ShowFault
no_memory = of_make make.no_memory

abbrev pub write_failed : ShowFault
write_failed = of_make make.write_failed

abbrev pub of_folder : FolderFault → ShowFault
of_folder given = of_make (make.of_folder given)

abbrev pub not_met : ℕ → FileFault
not_met line = file_fault.Table (record { line = line; kind = kind.NotMet })

abbrev pub of_remake : RemakeFault → ShowFault
of_remake (remake.Pool given) = of_pool given
of_remake (remake.NotMet line) = Table (not_met line)

-- the last line of the table doesn't say how runs are made
abbrev pub unsaid : ShownTable → ShowFault
unsaid table = Table (last_fault (length table.rows) kind.Shape)

-- that, or memory is out
abbrev pub IsUnsaid : ShownTable → ShowFault → Type 0
IsUnsaid table given = (given ≡ unsaid table) ⊎ (given ≡ no_memory)

abbrev pub IsDevice : CommandFault → Type 0
IsDevice (fault.Plain plain.Write) = ⊤
IsDevice (fault.Plain plain.NoMemory) = ⊤
IsDevice fault.NoThread = ⊤
IsDevice given = ⊥

-- runs were not made, or what is told of them was not; or a row was not met
abbrev pub IsRunFault : ShowFault → Type 0
IsRunFault (Table given) = (line : ℕ) × (given ≡ not_met line)
IsRunFault (OfHunt (Command given)) = IsDevice given
IsRunFault given = ⊥

-- the fault is one of a table that was read, of an image, or of the lists of these files
abbrev pub IsLateTold : ShownTable → Contents → Option (List ℕ) → Option (List ℕ) → Option (List ℕ) → ShowFault → Type 0
IsLateTold table image lines ignored expected (Table given) = (given ≡ last_fault (length table.rows) kind.Shape) ⊎ ((line : ℕ) × (given ≡ not_met line))
IsLateTold table image lines ignored expected (OfHunt (Command given)) = IsDevice given
IsLateTold table image lines ignored expected (OfHunt (Lines given)) = source.IsTold (source_in lines) given
IsLateTold table image lines ignored expected (OfHunt (Ignored given)) = IsOkAnd (source_in lines) (λ (read : Option (List SourceLine)). file.IsTold (ignored_in (naming_of image read) ignored) given)
IsLateTold table image lines ignored expected (OfHunt (Expected given)) = file.IsTold (expected_in expected) given
IsLateTold table image lines ignored expected (OfHunt (Aimed given)) = ⊥

-- ---- what is shown

-- by a hunt and the lists of files
abbrev pub shown_by : Hunt → Lists → TableShown
shown_by hunt lists = record { hunt = hunt; lines = lists.source; ignored = lists.ignored; expected = lists.expected }

-- by what is asked of the runs, an image, the lists of the table's last line, and those of files
abbrev pub shown_with : Asked → Contents → Listed → Lists → TableShown
shown_with asked image listed lists = shown_by (hunt_by asked image listed) lists

-- an image that is read, the bytes of lists and the table ask for it
pub record IsShownBy (image : Contents) (lines ignored expected : Option (List ℕ)) (table : ShownTable) (shown : TableShown) : Type 0 where
  pub given : RunsGiven
  pub given_is : given_in (words_in table.origin.given) ≡ Some given
  pub image_is : shown.hunt.source.image ≡ image
  pub hunt_is : hunt_with (asked_by table.origin.seed given) image ≡ Ok shown.hunt
  pub lines_are : source_in lines ≡ Ok shown.lines
  pub ignored_is : ignored_in (naming_of image shown.lines) ignored ≡ Ok shown.ignored
  pub expected_is : expected_in expected ≡ Ok shown.expected
