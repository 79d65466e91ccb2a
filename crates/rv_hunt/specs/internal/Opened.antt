-- What `hunt` has before it makes a run, and before it writes.
use Rattle.std.specs.Prelude.{◌≡◌, ℕ, true, false, List, Result, Ok, IfOk, IsOkAnd}
use Rattle.std.specs.Result.{IsOk}
use Rattle.rv_elf.specs.Contents.{Contents}
use Rattle.rv_engines.specs.Campaigns.{elements, listed, skipped}
use Rattle.rv_faults.specs.CommandFault as command
use Rattle.rv_faults.specs.CommandFault.{Refusal}
use Rattle.rv_search.specs.Hunt.{Hunt}
use Rattle.rv_memory.specs.Chain.{◌>>=◌}
use Rattle.rv_sample.specs.Sites.{sites}
use Rattle.rv_shown.specs.Asked.{Asked}
use Rattle.rv_hunt.specs.engine.HuntFault.{IsAimKnown, is_plain_refusal}
use Rattle.rv_hunt.specs.engine.Hunting.{Hunting, Texts, hunt_of, sought_in}
use Rattle.rv_tables.specs.merge.FileFault as file
use Rattle.rv_tables.specs.merge.Ignore.{aimed_in}
use Rattle.rv_hunt.specs.declared.engine.fault.HuntFault.{HuntFault}
use Rattle.rv_hunt.specs.declared.engine.fault.HuntFault.TheVariants.{Command, Ignored, Expected, Aimed, Lines}
use Rattle.rv_hunt.specs.declared.engine.lists.Lists.{Lists}
use Rattle.rv_hunt.specs.declared.engine.making.Made.{Made}
use Rattle.rv_hunt.specs.declared.engine.opening.Listed.{Listed}
use Rattle.rv_hunt.specs.declared.engine.opening.Opened.{Opened}

-- what is hunted, where the lists but that of idle functions are known, and where that of addresses is
abbrev pub hunt_with_names : Asked → Contents → List ℕ → List (ℕ × ℕ) → Result Hunt Refusal
hunt_with_names asked image excluded ranges = do
  idle ← listed image (elements asked.idle)
  Ok (record { source = record { image = image; sites = sites image excluded; seed = asked.seed }; given = asked.given; ranges = ranges; idle = idle; first = asked.first; limit = asked.limit })

abbrev pub hunt_with_sites : Asked → Contents → List ℕ → Result Hunt Refusal
hunt_with_sites asked image excluded = listed image (elements asked.named) >>= hunt_with_names asked image excluded

-- what an image that is read and the lists of the line are hunted by, or why a list is refused
abbrev pub hunt_with : Asked → Contents → Result Hunt Refusal
hunt_with asked image = skipped (elements asked.skip) >>= hunt_with_sites asked image

-- an image that is read, where the lists of addresses and of names aren't refused
abbrev pub sought_with : Asked → Contents → Result Contents Refusal
sought_with asked image = skipped (elements asked.skip) >>= λ excluded. listed image (elements asked.named) >>= λ ranges. Ok image

-- the fault is the one that is told of the lists of the line and of what is aimed at
abbrev pub IsLineTold : Asked → Contents → HuntFault → Type 0
IsLineTold asked image (Command given) =
    command.IsTold (hunt_with asked image) (command.refusal given) × (command.is_thread (command.refusal given) ≡ false)
    × (is_plain_refusal given ≡ true → IfOk (sought_with asked image) (λ (found : Contents). IsOk (aimed_in found asked.aim)))
IsLineTold asked image (Aimed given) = IsOkAnd (sought_with asked image) (λ (found : Contents). file.IsTold (aimed_in found asked.aim) given)
IsLineTold asked image (Lines given) = true ≡ false
IsLineTold asked image (Ignored given) = true ≡ false
IsLineTold asked image (Expected given) = true ≡ false

-- the same of an image's bytes
abbrev pub IsOpenTold : Asked → List ℕ → HuntFault → Type 0
IsOpenTold asked bytes (Command given) =
    command.IsTold (hunt_of asked bytes) (command.refusal given) × (command.is_thread (command.refusal given) ≡ false) × (is_plain_refusal given ≡ true → IsAimKnown asked bytes)
IsOpenTold asked bytes (Aimed given) = IsOkAnd (sought_in asked bytes) (λ (found : Contents). file.IsTold (aimed_in found asked.aim) given)
IsOpenTold asked bytes (Lines given) = true ≡ false
IsOpenTold asked bytes (Ignored given) = true ≡ false
IsOpenTold asked bytes (Expected given) = true ≡ false

-- the hunt of an image and of lists that are read
abbrev pub hunt_by : Asked → Contents → Listed → Hunt
hunt_by asked image lists = record {
  source = record { image = image; sites = sites image lists.excluded.items; seed = asked.seed };
  given = asked.given;
  ranges = lists.ranges;
  idle = lists.idle;
  first = asked.first;
  limit = asked.limit;
}

-- the hunt of all that is read
abbrev pub hunt_in : Asked → Opened → Hunt
hunt_in asked opened = hunt_by asked opened.image opened.lists

-- the same with the digits of the image's file, the exit codes that are right, and the lists of files
abbrev pub hunting_with : Hunt → List ℕ → List ℕ → Lists → Hunting
hunting_with hunt digits right lists = record { hunt = hunt; digits = digits; lines = lists.source; ignored = lists.ignored; expected = lists.expected; aim = lists.aim; right = right; built = lists.built }

abbrev pub texts_in : Made → Texts
texts_in made = record { text = made.text.items; notes = made.notes.items }
