-- Which ends of harts are as they should be.
use Rattle.std.specs.Prelude.{ℕ, Bool, true, false, not, ◌==◌, Option, Some, None, List, [], ◌∷◌, filter_map}
use Rattle.std.specs.List.{list_any}
use Rattle.rv_search.specs.declared.kept_run.KeptRun.{KeptRun}
use Rattle.rv_search.specs.declared.end.End.{End}
use Rattle.rv_search.specs.declared.end.End.TheVariants.{Exited, Stopped, Polls, Idle, Parked, OutOfSteps}
use Rattle.rv_text.specs.Numeral.{number_of, up_to}
use Rattle.rv_text.specs.Pieces.{pieces_of}

-- the code that a text writes in decimal, if it has 32 bits
abbrev pub code_of : List ℕ → Option ℕ
code_of text = up_to 4_294_967_295 (number_of 10 text)

-- the exit codes that are right: those of a list with a comma (44) between two, and 0 alone where none is given
abbrev pub right_codes : Option (List ℕ) → List ℕ
right_codes None = 0 ∷ []
right_codes (Some text) = filter_map code_of (pieces_of 44 text)

-- a trap stopped the hart, or it exited with another code
abbrev pub is_wrong_end : List ℕ → End → Bool
is_wrong_end right (Exited code) = not (list_any (λ one. one == code) right)
is_wrong_end right (Stopped cause pc) = true
is_wrong_end right (Polls pc) = false
is_wrong_end right Idle = false
is_wrong_end right Parked = false
is_wrong_end right OutOfSteps = false

-- a hart of the run ended so
abbrev pub ends_wrong : List ℕ → KeptRun → Bool
ends_wrong right kept = list_any (is_wrong_end right) kept.summary.ends.items

-- a hart of one of the runs ended so, however many ways of ending there were
unfoldable pub has_wrong_end : List ℕ → List KeptRun → Bool
has_wrong_end right runs = list_any (ends_wrong right) runs

-- The codes that are right, and whether a hart ended otherwise.
pub record EndsSeen : Type 0 where
  pub right : List ℕ
  pub is_wrong : Bool
