-- What a table's last line says was given of its runs.
use Rattle.std.specs.Prelude.{ℕ, ◌==◌, ◌||◌, Bool, true, false, if◌then◌else◌, is_some, nat_le, unwrap_or, Option, Some, None, option_map, List, [], ◌∷◌, codes, length, map}
use Rattle.std.specs.Borrow.{Bor}
use Rattle.std.specs.Str.{bytes_eq, is_utf8}
use Rattle.rv_collide.specs.declared.plan.TheConstants.{DEFAULT_SLOTS, MOST_ARMS, MOST_PAUSE, MOST_STEPS}
use Rattle.rv_hart.specs.declared.machine.TheConstants.{MOST_HARTS}
use Rattle.rv_tables.specs.HuntRead.{option_then}
use Rattle.rv_search.specs.declared.aim.Sides.{Sides}
use Rattle.rv_hunt.specs.declared.given.GivenRuns.{GivenRuns}
use Rattle.rv_hunt.specs.declared.given.Written.{Written as WrittenWords}
use Rattle.rv_hunt.specs.declared.given.TheConstants.{MOST_GIVEN_SLOTS, SLOTS}
use Rattle.rv_plans.specs.declared.plans.Lengths.{Lengths}
use Rattle.rv_plans.specs.declared.plans.Mix.{Mix}
use Rattle.rv_plans.specs.declared.plans.Mix.TheVariants.{Mixed, Sampled, Walks}
use Rattle.rv_text.specs.Decimal.{decimal_of}
use Rattle.rv_text.specs.Numeral.{up_to}
use Rattle.rv_text.specs.Pieces.{pieces_of}

abbrev pub Text : Type 0
Text = List ℕ

-- How many harts each run has, its lengths, and its slots, where they are given; whether all are sampled ones; and the addresses, the
-- names and the two sides, where they are listed.
pub record RunsGiven : Type 0 where
  pub harts : Option ℕ
  pub lengths : Option Lengths
  pub slots : Option ℕ
  pub sampled : Bool
  pub skip : Option Text
  pub named : Option Text
  pub aim : Option (Text × Text)

abbrev pub sides : Sides → Text × Text
sides both = (both.one.now, both.other.now)

-- the same, its lists as texts
abbrev pub given : GivenRuns → RunsGiven
given runs = record {
  harts = runs.harts;
  lengths = runs.lengths;
  slots = runs.slots;
  sampled = runs.sampled;
  skip = option_map (λ text. text.now) runs.skip;
  named = option_map (λ text. text.now) runs.named;
  aim = option_map sides runs.aim;
}

-- ---- what is given by it

-- walks alone where they are aimed at a pair, as sampled runs make no probes
abbrev pub mix_of : RunsGiven → Mix
mix_of runs = if runs.sampled then Sampled else (if is_some runs.aim then Walks else Mixed)

-- how many slots each run has
abbrev pub slots_of : RunsGiven → ℕ
slots_of runs = unwrap_or runs.slots (if runs.sampled then DEFAULT_SLOTS else SLOTS)

-- ---- its words

-- what the words write: the value behind each name
pub record Values : Type 0 where
  pub harts : Option Text
  pub plan : Option Text
  pub slots : Option Text
  pub sampled : Bool
  pub skip : Option Text
  pub named : Option Text
  pub aim : Option Text

abbrev pub texts : List (Bor Text) → List Text
texts words = map (λ word. word.now) words

abbrev pub bytes_if : Option (Bor Text) → Option Text
bytes_if word = option_map (λ bytes. bytes.now) word

abbrev pub values : WrittenWords → Values
values written = record {
  harts = bytes_if written.harts;
  plan = bytes_if written.plan;
  slots = bytes_if written.slots;
  sampled = written.sampled;
  skip = bytes_if written.skip;
  named = bytes_if written.named;
  aim = bytes_if written.aim;
}

-- the value of the name that the words begin with, and the words behind it; else all words
abbrev pub value_first : Text → List Text → Option Text × List Text
value_first name [] = (None, [])
value_first name (word ∷ []) = (None, word ∷ [])
value_first name (word ∷ value ∷ rest) = if bytes_eq word name then (Some value, rest) else (None, word ∷ value ∷ rest)

-- whether the words begin with the name, and the words behind it
abbrev pub flag_first : Text → List Text → Bool × List Text
flag_first name [] = (false, [])
flag_first name (word ∷ rest) = if bytes_eq word name then (true, rest) else (false, word ∷ rest)

-- the last of them, where no word follows
abbrev pub values_before : Values → List Text → Option Values
values_before found rest = if length rest == 0 then Some found else None

-- each name stands at its place, where it is given
unfoldable pub values_in : List Text → Option Values
values_in words =
    let harts = value_first (codes "harts") words in
    let plan = value_first (codes "plan") harts.1 in
    let slots = value_first (codes "slots") plan.1 in
    let sampled = flag_first (codes "sampled") slots.1 in
    let skip = value_first (codes "skip") sampled.1 in
    let named = value_first (codes "named") skip.1 in
    let aim = value_first (codes "aim") named.1 in
    values_before (record { harts = harts.0; plan = plan.0; slots = slots.0; sampled = sampled.0; skip = skip.0; named = named.0; aim = aim.0 }) aim.1

-- ---- what the values mean

-- what a value means that may not be given
abbrev pub if_given : {X : Type 0} → (Text → Option X) → Option Text → Option (Option X)
if_given meaning None = Some None
if_given meaning (Some text) = option_map (λ x. Some x) (meaning text)

abbrev pub number_in : ℕ → ℕ → Text → Option ℕ
number_in least most text = option_then (up_to most (decimal_of text)) (λ n. if nat_le least n then Some n else None)

abbrev pub three_lengths : Text → Text → Text → Option Lengths
three_lengths steps arms pause =
    option_then (number_in 1 MOST_STEPS steps) (λ s. option_then (number_in 0 MOST_ARMS arms) (λ a. option_map (λ p. record { steps = s; arms = a; pause = p }) (number_in 1 MOST_PAUSE pause)))

abbrev pub lengths_by : List Text → Option Lengths
lengths_by (steps ∷ arms ∷ pause ∷ []) = three_lengths steps arms pause
lengths_by _ = None

-- STEPS,ARMS,PAUSE, with commas (44) between them
abbrev pub lengths_in : Text → Option Lengths
lengths_in text = lengths_by (pieces_of 44 text)

abbrev pub text_in : Text → Option Text
text_in text = if is_utf8 text then Some text else None

-- neither side is empty
abbrev pub both_sides : Text → Text → Option (Text × Text)
both_sides one other = option_then (text_in one) (λ first. option_then (text_in other) (λ second. if length first == 0 || length second == 0 then None else Some (first, second)))

abbrev pub sides_by : List Text → Option (Text × Text)
sides_by (one ∷ other ∷ []) = both_sides one other
sides_by _ = None

-- A,B
abbrev pub sides_in : Text → Option (Text × Text)
sides_in text = sides_by (pieces_of 44 text)

abbrev pub given_by : Values → Option RunsGiven
given_by values =
    option_then (if_given (number_in 1 MOST_HARTS) values.harts) (λ harts.
    option_then (if_given lengths_in values.plan) (λ lengths.
    option_then (if_given (number_in 1 MOST_GIVEN_SLOTS) values.slots) (λ slots.
    option_then (if_given text_in values.skip) (λ skip.
    option_then (if_given text_in values.named) (λ named.
    option_map (λ aim. record { harts = harts; lengths = lengths; slots = slots; sampled = values.sampled; skip = skip; named = named; aim = aim })
    (if_given sides_in values.aim))))))

-- what the words of a line say was given
unfoldable pub given_in : List Text → Option RunsGiven
given_in words = option_then (values_in words) given_by
