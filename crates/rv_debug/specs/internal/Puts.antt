-- What answering a line does to a session and a writer.
use Rattle.std.specs.Prelude.{◌≡◌, ℕ, Option, List}
use Rattle.rv_debug.specs.Placed.{Placed, moved}
use Rattle.rv_debug.specs.Answered.{Answer, IsAnswered}
use Rattle.rv_debug.specs.declared.command.Command.{Command}

-- A line is answered, the answer is written, and the session goes to its place.
pub record Puts (before : Placed) (command : Option Command) (after : Placed) (Writes : List ℕ → Type 0) : Type 0 where
  pub answer : Answer
  pub answered : IsAnswered before command answer
  pub place : after ≡ moved before answer.place
  pub written : Writes answer.text
