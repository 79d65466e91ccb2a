-- Markup: texts within elements. Each element that has begun is one of those that may be, and ends before the one around it.
use Rattle.std.specs.Prelude.{◌≡◌, ℕ, List, [], ◌∷◌, ◌++◌, codes, drop}
use Rattle.std.specs.Fmt.{decimal}
use Rattle.std.specs.List.{flat_map}
use Rattle.rv_markup.specs.Escaped.{escaped}
use Rattle.rv_markup.specs.declared.markup.Fact.{Fact}
use Rattle.rv_markup.specs.declared.markup.Fact.TheVariants as fact
use Rattle.rv_markup.specs.declared.tag.Attribute.{Attribute}
use Rattle.rv_markup.specs.declared.tag.Place.{Place}
use Rattle.rv_markup.specs.declared.tag.Place.TheVariants.{Warnings, Races, Race, Aside, Ended, Seen}
use Rattle.rv_markup.specs.declared.tag.Tag.{Tag}

-- ---- what it is made of

pub data Piece : Type 0 where
  Doctype : Piece
  Begin : Tag → List Attribute → Piece
  BeginAt : Tag → List Attribute → Place → Piece
  BeginLink : Tag → Place → Piece
  Empty : Tag → List Attribute → Piece
  Said : List ℕ → Piece
  Number : ℕ → Piece
  End : Piece

-- the elements that are open behind a piece, before which these are; the innermost comes first
abbrev pub behind : Piece → List Tag → List Tag
behind (Begin tag attributes) begun = tag ∷ begun
behind (BeginAt tag attributes place) begun = tag ∷ begun
behind (BeginLink tag place) begun = tag ∷ begun
behind End begun = drop 1 begun
behind Doctype begun = begun
behind (Empty tag attributes) begun = begun
behind (Said text) begun = begun
behind (Number n) begun = begun

-- what is told of a piece
abbrev pub told : Piece → List Fact
told (BeginAt tag attributes place) = fact.Target place ∷ []
told (BeginLink tag place) = fact.Link place ∷ []
told (Number n) = fact.Number n ∷ []
told (Begin tag attributes) = []
told End = []
told Doctype = []
told (Empty tag attributes) = []
told (Said text) = []

-- the same of pieces, of which the last stands first
abbrev pub opened : List Piece → List Tag
opened [] = []
opened (piece ∷ earlier) = behind piece (opened earlier)

abbrev pub facts_of : List Piece → List Fact
facts_of [] = []
facts_of (piece ∷ earlier) = told piece ++ facts_of earlier

-- ---- how it is written

-- ` NAME='VALUE'`
abbrev pub attribute_text : Attribute → List ℕ
attribute_text attribute = 32 ∷ attribute.name.name.now ++ (codes "='" ++ (escaped attribute.value.now ++ codes "'"))

abbrev pub tag_text : Tag → List Attribute → List ℕ
tag_text tag attributes = 60 ∷ tag.name.now ++ flat_map attribute_text attributes

abbrev pub place_text : Place → List ℕ
place_text Warnings = codes "warnings"
place_text Races = codes "races"
place_text (Race n) = codes "race-" ++ decimal n
place_text Aside = codes "aside"
place_text Ended = codes "ended"
place_text Seen = codes "seen"

-- the end of the innermost of these
abbrev pub end_text : List Tag → List ℕ
end_text [] = []
end_text (tag ∷ others) = codes "</" ++ (tag.name.now ++ codes ">")

-- a piece behind which, before it, these elements are open
abbrev pub piece_text : List Tag → Piece → List ℕ
piece_text begun Doctype = codes "<!DOCTYPE html>\n"
piece_text begun (Begin tag attributes) = tag_text tag attributes ++ codes ">"
piece_text begun (BeginAt tag attributes place) = tag_text tag attributes ++ (codes " id='" ++ (place_text place ++ codes "'>"))
piece_text begun (BeginLink tag place) = tag_text tag [] ++ (codes " href='#" ++ (place_text place ++ codes "'>"))
piece_text begun (Empty tag attributes) = tag_text tag attributes ++ codes "/>"
piece_text begun (Said text) = escaped text
piece_text begun (Number n) = decimal n
piece_text begun End = end_text begun

-- pieces, of which the last stands first
abbrev pub written : List Piece → List ℕ
written [] = []
written (piece ∷ earlier) = written earlier ++ piece_text (opened earlier) piece

-- ---- a markup

-- how many elements are open, and what is told, the last first
pub record Written : Type 0 where
  pub depth : ℕ
  pub facts : List Fact

-- a text of pieces
pub record IsMarkup (text : List ℕ) (begun : List Tag) (facts : List Fact) : Type 0 where
  pub pieces : List Piece
  pub text_is : text ≡ written pieces
  pub begun_is : begun ≡ opened pieces
  pub facts_are : facts ≡ facts_of pieces

-- the same where each element has ended
abbrev pub IsDocument : List ℕ → List Fact → Type 0
IsDocument text facts = IsMarkup text [] facts
