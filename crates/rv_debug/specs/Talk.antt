-- What is written of an input of the debugger's commands, line by line.
use Rattle.std.specs.Prelude.{◌≡◌, ℕ, ◌<◌, ◌==◌, ⊤, Bool, true, false, if◌then◌else◌, Option, Some, List, [], ◌∷◌, length, take, take_while, count_by}
use Rattle.std.specs.Io.KnownBytes.{Consumes}
use Rattle.std.specs.List.{flat_map, list_all}
use Rattle.rv_memory.specs.declared.flagged.TheConstants.{INPUT_LIMIT}
use Rattle.rv_text.specs.Lines.{lines_of}
use Rattle.rv_debug.specs.Answered.{Answer, IsAnswered}
use Rattle.rv_debug.specs.Command.{command_of, is_quit}
use Rattle.rv_debug.specs.Placed.{Placed, moved}
use Rattle.rv_debug.specs.declared.fault.TalkFault.{TalkFault}
use Rattle.rv_debug.specs.declared.fault.TalkFault.TheVariants.{TooLong, Read, Write}

-- ---- the lines

abbrev pub goes_on : List ℕ → Bool
goes_on line = if is_quit (command_of line) then false else true

-- the lines in front of the first that ends the session
abbrev pub lines_before_quit : List (List ℕ) → List (List ℕ)
lines_before_quit lines = take_while goes_on lines

-- the lines that an LF ends
abbrev pub whole_lines : List ℕ → List (List ℕ)
whole_lines text = take (count_by (λ byte. byte == 10) text) (lines_of text)

-- ---- the talk

-- The lines are answered one after another, each where the one before it left the session: these are the texts of
-- the answers, one a line. At their end the session stands at a place.
abbrev pub Answers : Placed → List (List ℕ) → List (List ℕ) → Placed → Type 0
Answers p [] texts end = (texts ≡ []) × (end ≡ p)
Answers p (line ∷ lines) texts end =
    (answer : Answer) × ((rest : List (List ℕ)) × (IsAnswered p (command_of line) answer
    × Answers (moved p answer.place) lines rest end × (texts ≡ answer.text ∷ rest)))

-- The lines are answered, and the texts of the answers are written, one after another.
pub record IsTalk (p : Placed) (lines : List (List ℕ)) (Writes : List ℕ → Type 0) : Type 0 where
  pub texts : List (List ℕ)
  pub end : Placed
  pub answers : Answers p lines texts end
  pub written : Writes (flat_map (λ text. text) texts)

-- The input is too long: its lines within the limit are answered, and none of them ends the session.
pub record IsCutOff (p : Placed) (input : List ℕ) (Writes : List ℕ → Type 0) : Type 0 where
  pub long : INPUT_LIMIT < length input
  pub talk : IsTalk p (whole_lines (take INPUT_LIMIT input)) Writes
  pub goes_on : list_all goes_on (whole_lines (take INPUT_LIMIT input)) ≡ true

-- An input that is answered to its end has no more bytes than the limit, or a line within it ends the session.
abbrev pub IsWithin : List ℕ → Type 0
IsWithin input = INPUT_LIMIT < length input → list_all goes_on (whole_lines (take INPUT_LIMIT input)) ≡ false

-- The reader fails, and these bytes were read before: the lines that an LF ends in them are answered, and none of
-- them ends the session.
pub record IsBroken (p : Placed) (input : List ℕ) (rest : Option (List ℕ)) (Writes : List ℕ → Type 0) : Type 0 where
  pub read : List ℕ
  pub is_read : Consumes (Some input) rest read
  pub talk : IsTalk p (whole_lines read) Writes
  pub goes_on : list_all goes_on (whole_lines read) ≡ true

-- Why the talk over an input stops before its end, and what is written then. The rest is what the reader still has.
abbrev pub IsStopped : Placed → List ℕ → Option (List ℕ) → (List ℕ → Type 0) → TalkFault → Type 0
IsStopped p input rest Writes TooLong = IsCutOff p input Writes
IsStopped p input rest Writes Read = IsBroken p input rest Writes
IsStopped p input rest Writes Write = ⊤
