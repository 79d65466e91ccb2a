-- What `words` writes of its input, or the fault that it tells.
use Rattle.std.specs.Prelude.{ℕ, Result, Ok, Err, List}
use Rattle.rv_hart.specs.State.{State}
use Rattle.rv_hart.specs.Texts.{state_text}
use Rattle.rv_words.specs.WordsGuest as guest
use Rattle.rv_words.specs.declared.fault.WordsFault.{WordsFault}
use Rattle.rv_memory.specs.Chain.{◌>>=◌}
use Rattle.rv_faults.specs.Fault.{fault_of_words, unless_long}
use Rattle.rv_faults.specs.declared.fault.Fault.{Fault}

abbrev pub told_words : {A : Type 0} → Result A WordsFault → Result A Fault
told_words (Ok a) = Ok a
told_words (Err fault) = Err (fault_of_words fault)

-- The state after the steps of an input, or why it is refused: its bytes are too many, and else its first malformed
-- line, and else its first step that is refused.
unfoldable pub state_of : List ℕ → Result State Fault
state_of bytes = do
  whole ← unless_long bytes
  told_words (guest.state_of whole)

-- what is written for an input, or why it is refused
unfoldable pub words_text : List ℕ → Result (List ℕ) Fault
words_text bytes = do
  state ← state_of bytes
  Ok (state_text state)
