-- A JSON text as a list of pieces: what each adds to the tokens, which objects and arrays are open behind it, and what is told of it.
use Rattle.std.specs.Prelude.{◌≡◌, ℕ, List, [], ◌∷◌, ◌++◌, drop}
use Rattle.std.specs.Fmt.{decimal}
use Rattle.std.specs.Str.{IsUtf8}
use Rattle.json.specs.Lex.{tokens}
use Rattle.json.specs.Print.{print}
use Rattle.json.specs.Token.{Token, begin_array, begin_object, end_array, end_object, key, null, number, string}
use Rattle.rv_json.specs.declared.fact.Begun.{Begun}
use Rattle.rv_json.specs.declared.fact.Begun.TheVariants.{Object, Array}
use Rattle.rv_json.specs.declared.fact.Fact.{Fact}
use Rattle.rv_json.specs.declared.fact.Told.{Told}
use Rattle.rv_json.specs.declared.fact.Told.TheVariants.{Begins, Number, Digits, Word, Nothing}
use Rattle.rv_text.specs.Hexadecimal.{word_digits}

-- ---- what is told

-- a member by its name and its value's token, of an object or an array the first
pub record Member : Type 0 where
  pub name : List ℕ
  pub value : Token

-- the token that begins it
abbrev pub begin_of : Begun → Token
begin_of Object = begin_object
begin_of Array = begin_array

abbrev pub end_of : Begun → Token
end_of Object = end_object
end_of Array = end_array

-- a number in decimal, a word of 32 bits as a string of eight digits
abbrev pub value_of : Told → Token
value_of (Begins begun) = begin_of begun
value_of (Number n) = number (decimal n)
value_of (Digits word) = string (word_digits word)
value_of (Word word) = string word.now
value_of Nothing = null

abbrev pub member_of : Fact → Member
member_of fact = record { name = fact.name.now; value = value_of fact.value }

-- ---- what a text is made of

pub data Piece : Type 0 where
  Begin : Begun → Piece
  BeginAt : List ℕ → Begun → Piece
  Tell : Member → Piece
  Said : Token → Piece
  End : Piece

-- the objects and arrays that are open behind a piece, before which these are; the innermost comes first
abbrev pub behind : Piece → List Begun → List Begun
behind (Begin begun) open_ones = begun ∷ open_ones
behind (BeginAt name begun) open_ones = begun ∷ open_ones
behind (Tell member) open_ones = open_ones
behind (Said token) open_ones = open_ones
behind End open_ones = drop 1 open_ones

-- what is told of a piece
abbrev pub told : Piece → List Member
told (Begin begun) = []
told (BeginAt name begun) = record { name = name; value = begin_of begun } ∷ []
told (Tell member) = member ∷ []
told (Said token) = []
told End = []

-- the end of the innermost of these
abbrev pub end_tokens : List Begun → List Token
end_tokens [] = []
end_tokens (begun ∷ others) = end_of begun ∷ []

-- the tokens of a piece before which these are open
abbrev pub piece_tokens : List Begun → Piece → List Token
piece_tokens open_ones (Begin begun) = begin_of begun ∷ []
piece_tokens open_ones (BeginAt name begun) = key name ∷ begin_of begun ∷ []
piece_tokens open_ones (Tell member) = key member.name ∷ member.value ∷ []
piece_tokens open_ones (Said token) = token ∷ []
piece_tokens open_ones End = end_tokens open_ones

-- the same of pieces, of which the last stands first
abbrev pub opened : List Piece → List Begun
opened [] = []
opened (piece ∷ earlier) = behind piece (opened earlier)

abbrev pub told_of : List Piece → List Member
told_of [] = []
told_of (piece ∷ earlier) = told piece ++ told_of earlier

abbrev pub written : List Piece → List Token
written [] = []
written (piece ∷ earlier) = written earlier ++ piece_tokens (opened earlier) piece

-- ---- a text

-- how many objects and arrays are open, and what is told, the last first
pub record Part : Type 0 where
  pub depth : ℕ
  pub facts : List Member

-- tokens of pieces
pub record IsPart (tokens_so_far : List Token) (open_ones : List Begun) (facts : List Member) : Type 0 where
  pub pieces : List Piece
  pub tokens_are : tokens_so_far ≡ written pieces
  pub open_are : open_ones ≡ opened pieces
  pub facts_are : facts ≡ told_of pieces

-- A text in UTF-8 of tokens that read back, behind which nothing is open, and a line feed. These are told of it, the last first.
pub record IsObject (text : List ℕ) (facts : List Member) : Type 0 where
  pub all : List Token
  pub is_text : text ≡ print all ++ 10 ∷ []
  pub reads_back : tokens (print all) ≡ all
  pub is_utf8 : IsUtf8 (print all)
  pub part : IsPart all [] facts
