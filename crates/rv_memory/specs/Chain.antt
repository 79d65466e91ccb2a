-- Steps that may be refused, one after another: the first refusal is what is told.
use Rattle.std.specs.Prelude.{Bool, if◌then◌else◌, Result, Ok, Err}

infixl 10 ◌>>=◌
abbrev pub ◌>>=◌ : {A B E : Type 0} → Result A E → (A → Result B E) → Result B E
(Ok value) >>= next = next value
(Err refusal) >>= next = Err refusal

-- a test, and what is told where it fails
abbrev pub want : {E : Type 0} → Bool → E → Result (Unit {0}) E
want test refusal = if test then Ok tt else Err refusal
