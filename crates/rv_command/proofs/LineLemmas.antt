use Rattle.std.proofs.Common.{sym, ◌∙◌, ◌≡◌, ◌<◌, refl, arith, length, true, List, None, inl, inr, [], ◌∷◌, false}
use Rattle.std.proofs.lemmas.Bool.Decides.{nat_tests}
use Rattle.std.specs.Prelude.{◌≢◌, not, ◌||◌, ◌&&◌, Bool}
use Rattle.clap.specs.Faults.{is_simple_and_free}
use Rattle.clap.specs.Kinds.{HasKind, IsAmong, Kinds}
use Rattle.clap.specs.Matches.{first_value}
use Rattle.clap.specs.Simple.{is_simple}
use Rattle.clap.specs.Values.{kind_of}
use Rattle.clap.specs.Walk.{Text, first_of, is_empty, rows_of}
use Rattle.clap.specs.declared.error.Error.{Error}
use Rattle.clap.specs.declared.error.kind.ErrorKind.{ErrorKind}
use Rattle.clap.specs.declared.error.kind.ErrorKind.TheVariants as kind
use Rattle.std.specs.List.{list_all, list_any}
use Rattle.clap.specs.declared.parser.matches.Found.{Found}
use Rattle.clap.proofs.OnLiterals.{clap_on_literals}
use Rattle.clap.proofs.WalkLemmas.{first_value-rows}
use Rattle.std.specs.Borrow.{Bor}
use Rattle.rv_command.specs.Command.{job_of, texts}
use Rattle.rv_command.specs.Notice.{is_request}
use Rattle.rv_command.specs.ClapProgram.{program}

-- `clap` says exactly what it makes of the program's words
pub is_exact : is_simple_and_free program ≡ true
unfolding clap_on_literals
is_exact = refl

pub is_simple_program : is_simple program ≡ true
unfolding clap_on_literals
is_simple_program = refl

-- a line without a command asks for no job
pub short_line : (words : List (Bor Text)) → length words < 2 → job_of (texts words) ≡ None
unfolding job_of
short_line [] short = refl
short_line (name ∷ []) short = refl
short_line (name ∷ command ∷ rest) short = absurd (omega (arith, short))

pub among_some : (k : ErrorKind) (kinds : Kinds) → IsAmong k kinds → is_empty kinds ≡ false
among_some k [] among = absurd among
among_some k (x ∷ xs) among = grind (arith, nat_tests)

pub text_found : (f : Found) (name : Text) → first_value f name ≡ first_of name (rows_of f)
text_found f name = first_value-rows f name

or_right : (a b : Bool) → b ≡ true → (a || b) ≡ true
or_right true b e = refl
or_right false b e = e

and_right : (a b : Bool) → b ≡ false → (a && b) ≡ false
and_right true b e = e
and_right false b e = refl

-- a request is one of the kinds that may come
pub request_among : (k : ErrorKind) (kinds : Kinds) → IsAmong k kinds → is_request k ≡ true → list_any is_request kinds ≡ true
request_among k [] among asked = absurd among
request_among k (x ∷ xs) (inl same) asked = rw (← same, asked) refl
request_among k (x ∷ xs) (inr later) asked = or_right (is_request x) _ (request_among k xs later asked)

-- where no request came, not all that may come are requests
pub refusal_among : (k : ErrorKind) (kinds : Kinds) → IsAmong k kinds → is_request k ≡ false → list_all is_request kinds ≡ false
refusal_among k [] among other = absurd among
refusal_among k (x ∷ xs) (inl same) other = rw (← same, other) refl
refusal_among k (x ∷ xs) (inr later) other = and_right (is_request x) _ (refusal_among k xs later other)

pub answer_asked : (kinds : Kinds) (e : Error) (b : Bool) → HasKind kinds e → kind_of e ≢ kind.OutOfMemory → b ≡ is_request (kind_of e)
    → b ≡ true → list_any is_request kinds ≡ true
answer_asked kinds e b (inl memory) other shown t = absurd (other memory)
answer_asked kinds e b (inr among) other shown t = request_among (kind_of e) kinds among (sym shown ∙ t)

pub refusal_told : (kinds : Kinds) (e : Error) (b : Bool) → HasKind kinds e → kind_of e ≢ kind.OutOfMemory → b ≡ is_request (kind_of e)
    → b ≡ false → (not (is_empty kinds) && list_all is_request kinds) ≡ false
refusal_told kinds e b (inl memory) other shown f = absurd (other memory)
refusal_told kinds e b (inr among) other shown f = and_right (not (is_empty kinds)) _ (refusal_among (kind_of e) kinds among (sym shown ∙ f))
