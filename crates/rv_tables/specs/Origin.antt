-- What a hunt table is of: the last line of its text.
use Rattle.std.specs.Prelude.{ℕ, ◌+◌, ◌-◌, ◌==◌, ◌&&◌, ◌||◌, Bool, not, if◌then◌else◌, Option, Some, None, option_map, List, [], ◌∷◌, ◌++◌, codes, drop, length, nat_lt, slice_get, take}
use Rattle.std.specs.Fmt.{decimal}
use Rattle.std.specs.List.{flat_map, fold}
use Rattle.std.specs.Option.{option_map_or}
use Rattle.std.specs.Str.{bytes_eq}
use Rattle.sha2.specs.Sha256.{sha256}
use Rattle.rv_collide.specs.Counts.{saturated}
use Rattle.rv_collide.specs.ScheduleRead.{named, words_of}
use Rattle.rv_tables.specs.HuntRead.{option_then, sized}
use Rattle.rv_tables.specs.declared.fault.TableKind.{TableKind}
use Rattle.rv_tables.specs.declared.fault.TableKind.TheVariants as kind
use Rattle.rv_tables.specs.declared.origin.Stretch.{Stretch}
use Rattle.rv_text.specs.Decimal.{decimal_of}
use Rattle.rv_text.specs.Hexadecimal.{byte_digits}

-- the first 16 digits of the SHA-256 digest of an image's file
unfoldable pub image_digits : List ℕ → List ℕ
image_digits bytes = flat_map byte_digits (take 8 (sha256 bytes))

-- The digits of the image, the version of the program, the seed, the runs in stretches that follow one another, and what else was given of
-- the runs, as it is written: a blank before each word.
pub record Origin : Type 0 where
  pub image : List ℕ
  pub version : List ℕ
  pub seed : ℕ
  pub stretches : List Stretch
  pub given : List ℕ

-- ---- its text

-- ` first R runs N`
abbrev pub stretch_text : Stretch → List ℕ
stretch_text stretch = codes " first " ++ decimal stretch.first ++ codes " runs " ++ decimal (stretch.end - stretch.first)

-- `of IMAGE by VERSION seed S`
abbrev pub heading_text : List ℕ → List ℕ → ℕ → List ℕ
heading_text image version seed = codes "of " ++ image ++ codes " by " ++ version ++ codes " seed " ++ decimal seed

-- that, `first R runs N` of each stretch, what was given, and an LF
unfoldable pub origin_line : Origin → List ℕ
origin_line origin = heading_text origin.image origin.version origin.seed ++ (flat_map stretch_text origin.stretches ++ (origin.given ++ 10 ∷ []))

-- the line, where there is one
abbrev pub last_line : Option Origin → List ℕ
last_line None = []
last_line (Some origin) = origin_line origin

-- ---- what is read of it

-- a number of 64 bits
abbrev pub number_in : List ℕ → Option ℕ
number_in word = option_then (decimal_of word) sized

-- the word that follows the name, of the words' first two
abbrev pub word_after : List ℕ → List (List ℕ) → Option (List ℕ)
word_after name [] = None
word_after name (word ∷ []) = None
word_after name (word ∷ next ∷ words) = if bytes_eq word name then Some next else None

-- so many runs from a number on
abbrev pub stretch_from : ℕ → ℕ → Option Stretch
stretch_from first runs = option_map (λ end. record { first = first; end = end }) (sized (first + runs))

-- `R runs N`
abbrev pub stretch_of : List ℕ → List ℕ → List ℕ → Option Stretch
stretch_of numeral name runs =
    if bytes_eq name (codes "runs") then
    option_then (number_in numeral) (λ first. option_then (number_in runs) (stretch_from first))
    else None

-- the same, of the words' first three
abbrev pub stretch_in : List (List ℕ) → Option Stretch
stretch_in (numeral ∷ name ∷ runs ∷ words) = stretch_of numeral name runs
stretch_in _ = None

-- where the stretches end: the number behind their last run
abbrev pub end_of : List Stretch → ℕ
end_of stretches = option_map_or (λ stretch. stretch.end) (slice_get stretches (length stretches - 1)) 0

-- the stretch begins behind the others, and not at once
abbrev pub is_behind : List Stretch → Stretch → Bool
is_behind before stretch = length before == 0 || nat_lt (end_of before) stretch.first

abbrev pub is_first : List ℕ → Bool
is_first word = bytes_eq word (codes "first")

-- each `first R runs N` that the words begin with, behind the stretches before, and the words that are left
unfoldable pub stretches_in : List Stretch → List (List ℕ) → Option (List Stretch × List (List ℕ))
stretches_in before [] = Some (before, [])
stretches_in before (word ∷ numeral ∷ name ∷ runs ∷ words) =
    if is_first word then option_then (stretch_of numeral name runs) (λ stretch. if is_behind before stretch then stretches_in (before ++ stretch ∷ []) words else None)
    else Some (before, word ∷ numeral ∷ name ∷ runs ∷ words)
stretches_in before (word ∷ words) = if is_first word then None else Some (before, word ∷ words)

-- the words, a blank (32) before each
abbrev pub words_text : List (List ℕ) → List ℕ
words_text words = flat_map (λ word. 32 ∷ word) words

-- what the words of the line say
unfoldable pub origin_in : List (List ℕ) → Option Origin
origin_in words =
    option_then (word_after (codes "of") words) (λ image.
    option_then (word_after (codes "by") (drop 2 words)) (λ version.
    option_then (option_then (named (codes "seed") (drop 4 words)) sized) (λ seed.
    option_then (stretches_in [] (drop 6 words)) (λ rest.
    if length rest.0 == 0 then None else Some (record { image = image; version = version; seed = seed; stretches = rest.0; given = words_text rest.1 })))))

-- ---- two of them

-- the two tables are of different images, or of different programs, or other runs were asked for
unfoldable pub unlike : Origin → Origin → Option TableKind
unlike first other =
    if not (bytes_eq other.image first.image) then Some kind.Image
    else if not (bytes_eq other.version first.version) then Some kind.Version
    else if not (other.seed == first.seed && bytes_eq other.given first.given) then Some kind.Options
    else None

-- the stretches with one more behind them, which makes the last longer where nothing is between
unfoldable pub with_stretch : List Stretch → Stretch → List Stretch
with_stretch [] stretch = stretch ∷ []
with_stretch (last ∷ []) stretch = if last.end == stretch.first then record { first = last.first; end = stretch.end } ∷ [] else last ∷ stretch ∷ []
with_stretch (first ∷ next ∷ later) stretch = first ∷ with_stretch (next ∷ later) stretch

-- the stretches of two tables
unfoldable pub joined_stretches : List Stretch → List Stretch → List Stretch
joined_stretches before later = fold with_stretch before later

-- the later's runs behind those of the other, of which nothing else is told
abbrev pub joined_origin : Origin → Origin → Origin
joined_origin before later = record before { stretches = joined_stretches before.stretches later.stretches }

-- runs between the first and the last are missing
abbrev pub has_gap : List Stretch → Bool
has_gap stretches = nat_lt 1 (length stretches)

-- the number of the first run
abbrev pub first_run : List Stretch → ℕ
first_run stretches = option_map_or (λ stretch. stretch.first) (slice_get stretches 0) 0

-- runs that so many more follow
abbrev pub stretch_on : ℕ → ℕ → Stretch
stretch_on first runs = record { first = first; end = saturated (first + runs) }

-- ---- one that is shown

-- the table is of another image than the one with these digits, or by another version
unfoldable pub other_than : List ℕ → List ℕ → Origin → Option TableKind
other_than image version origin =
    if not (bytes_eq origin.image image) then Some kind.Image
    else if not (bytes_eq origin.version version) then Some kind.Version
    else None

-- how many runs there are; it stays at the largest number of 64 bits once there
abbrev pub runs_of : List Stretch → ℕ
runs_of stretches = fold (λ n (stretch : Stretch). saturated (n + (stretch.end - stretch.first))) 0 stretches

-- the words of a text that has a blank (32) before each
abbrev pub words_in : List ℕ → List (List ℕ)
words_in text = drop 1 (words_of text)
