-- What is told of a race as JSON. Each function puts what a part tells before what was told so far, so that the last stands first.
use Rattle.std.specs.Prelude.{ℕ, Option, Some, None, option_map, List, ◌∷◌, codes}
use Rattle.rv_races.specs.Classes.{class_word}
use Rattle.rv_explain.specs.declared.object.race.AccessSaid.{AccessSaid}
use Rattle.rv_explain.specs.declared.object.race.RaceSaid.{RaceSaid}
use Rattle.rv_races.specs.declared.classes.RaceClass.{RaceClass}
use Rattle.rv_json.specs.Facts.{begins, counted, digits, nothing, worded}
use Rattle.rv_json.specs.Object.{Member}

-- What is told of a race: its number and class, how many reports it has, on which byte first, the instructions of the paused hart and of
-- the other one, where that is known, and the bytes when the pause began and when it ended.
pub record RaceTold : Type 0 where
  pub number : ℕ
  pub class : RaceClass
  pub reports : ℕ
  pub address : Option ℕ
  pub paused : ℕ
  pub other : Option ℕ
  pub before : ℕ
  pub after : ℕ

abbrev pub told_of : RaceSaid → RaceTold
told_of said = record {
  number = said.number;
  class = said.class;
  reports = said.reports;
  address = said.address;
  paused = said.paused.pc;
  other = option_map (λ (side : AccessSaid). side.pc) said.other;
  before = said.before;
  after = said.after;
}

-- a place by its address
abbrev pub place_facts : List ℕ → ℕ → List Member → List Member
place_facts name address facts = digits (codes "address") address ∷ begins name ∷ facts

abbrev pub place_if_facts : List ℕ → Option ℕ → List Member → List Member
place_if_facts name None facts = nothing name ∷ facts
place_if_facts name (Some address) facts = place_facts name address facts

-- an access by its instruction's address
abbrev pub access_facts : List ℕ → ℕ → List Member → List Member
access_facts name pc facts = place_facts (codes "at") pc (begins name ∷ facts)

abbrev pub other_facts : Option ℕ → List Member → List Member
other_facts None facts = nothing (codes "other") ∷ facts
other_facts (Some pc) facts = access_facts (codes "other") pc facts

-- the bytes at an entry
abbrev pub value_facts : List ℕ → ℕ → List Member → List Member
value_facts name value facts = digits (codes "value") value ∷ begins name ∷ facts

-- its number and class, how many reports it has, and on which bytes
abbrev pub head_facts : RaceTold → List Member → List Member
head_facts race facts =
    place_if_facts (codes "data") race.address (counted (codes "reports") race.reports ∷ worded (codes "class") (class_word race.class) ∷ counted (codes "number") race.number ∷ facts)

-- its two instructions, and the bytes before and after
abbrev pub sides_facts : RaceTold → List Member → List Member
sides_facts race facts =
    value_facts (codes "after") race.after (value_facts (codes "before") race.before (other_facts race.other (access_facts (codes "paused") race.paused facts)))

unfoldable pub race_facts : RaceTold → List Member → List Member
race_facts race facts = sides_facts race (head_facts race facts)
