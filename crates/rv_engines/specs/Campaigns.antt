-- What `run` makes of the bytes of an image and its options: the race table of a campaign, and a run's schedule.
use Rattle.std.specs.Prelude.{ℕ, ◌+◌, Bool, false, IfSome, IsSomeAnd, is_none, find, filter_map, slice_get, Option, Some, None, Result, Ok, Err, List, [], ◌∷◌, ◌++◌, map}
use Rattle.std.specs.Option.{option_map_or}
use Rattle.rv_campaign.specs.Campaign.{AreRuns, fault_of}
use Rattle.rv_campaign.specs.Run.{Hunt}
use Rattle.rv_collide.specs.Grammar.{schedule_text}
use Rattle.rv_collide.specs.Numbers.{numbers}
use Rattle.rv_collide.specs.declared.collider.Finished.{Finished}
use Rattle.rv_collide.specs.declared.ending.Ending.{Ending}
use Rattle.rv_elf.specs.Contents.{Contents}
use Rattle.rv_memory.specs.Chain.{◌>>=◌}
use Rattle.rv_prune.specs.Class.{class}
use Rattle.rv_prune.specs.Ranges.{is_unknown, ranges}
use Rattle.rv_report.specs.Races.{Told, races}
use Rattle.rv_report.specs.TableText.{table_text}
use Rattle.rv_text.specs.Hexadecimal.{word_of}
use Rattle.rv_text.specs.Pieces.{pieces_of}
use Rattle.rv_engines.specs.Images.{image_of}
use Rattle.rv_engines.specs.Request.{Request}
use Rattle.rv_faults.specs.CommandFault.{Refusal, Skip, Name, Campaign as Numbered, plainly}

-- ---- the lists

-- the elements of a list: a comma (44) stands between two of them, and an element may be empty
abbrev pub elements : Option (List ℕ) → List (List ℕ)
elements None = []
elements (Some text) = pieces_of 44 text

-- what there is, if there is something, is what is told
abbrev pub unless_some : {A : Type 0} → Option A → (A → Refusal) → Result (Unit {0}) Refusal
unless_some None told = Ok tt
unless_some (Some thing) told = Err (told thing)

abbrev pub is_malformed : List ℕ → Bool
is_malformed element = is_none (word_of element)

-- the addresses that are no sites, or the first element that is not eight hexadecimal digits
unfoldable pub skipped : List (List ℕ) → Result (List ℕ) Refusal
skipped given = unless_some (find is_malformed given) Skip >>= λ _. Ok (filter_map word_of given)

-- the bytes that the names stand for, or the first name that no symbol has
unfoldable pub listed : Contents → List (List ℕ) → Result (List (ℕ × ℕ)) Refusal
listed image names = unless_some (find (is_unknown image) names) Name >>= λ _. Ok (ranges image names)

-- ---- the campaign

-- What is hunted, and the bytes whose races are counted apart.
pub record Campaign : Type 0 where
  pub hunt : Hunt
  pub listed : List (ℕ × ℕ)

-- The campaign that a request and an image's bytes say, or why it is refused: by the image, by the list of
-- addresses, by the list of names, and else by the campaign's numbers.
unfoldable pub campaign_of : Request → List ℕ → Result Campaign Refusal
campaign_of r bytes = do
  image ← plainly (image_of bytes)
  excluded ← skipped (elements r.skip)
  bytes_listed ← listed image (elements r.named)
  unless_some (fault_of r.plan r.runs r.workers) Numbered >>= λ _. Ok (record { hunt = record { image = image; plan = r.plan; seed = r.seed; excluded = excluded }; listed = bytes_listed })

-- ---- what is written

-- an ending of a run, with its class
abbrev pub with_class : Contents → List (ℕ × ℕ) → ℕ → Ending → Told
with_class image bytes run ending = record { run = run; ending = ending; class = class image ending bytes }

-- the endings of the runs, run by run, where the first run has this number
unfoldable pub told_from : Contents → List (ℕ × ℕ) → ℕ → List Finished → List Told
told_from image bytes run [] = []
told_from image bytes run (one ∷ later) = map (with_class image bytes run) one.endings.items ++ told_from image bytes (run + 1) later

-- the race table of the runs of a campaign
abbrev pub table_of : Campaign → List Finished → List ℕ
table_of c runs = table_text (races (told_from c.hunt.image c.listed 0 runs))

-- These are the runs that the campaign has; their race table is written, and the schedule of the run that is kept
-- is saved. There is that run: a request's runs have it.
pub record IsHunted (r : Request) (c : Campaign) (Writes Saves : List ℕ → Type 0) : Type 0 where
  pub runs : List Finished
  pub are_runs : AreRuns c.hunt r.runs runs
  pub written : Writes (table_of c runs)
  pub saved : IsSomeAnd (slice_get runs r.keep) (λ one. Saves (schedule_text (numbers one.plan) one.entries.items))

-- ---- a file that may be wanted

-- where one is wanted, it passes the test
abbrev pub passes : {F : Type 0} → (F → Bool) → Option F → Bool
passes test file = option_map_or test file false

-- where one is wanted, it holds the text
abbrev pub IfWanted : {F : Type 0} → (F → List ℕ → Type 0) → Option F → List ℕ → Type 0
IfWanted Holds file text = IfSome file (λ made. Holds made text)
