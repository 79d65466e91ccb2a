-- the words so far
use Rattle.std.proofs.Common.{◌≡◌, take, map}
use Rattle.std.specs.String.{string_bytes}
use Rattle.rv_command.specs.Command.{texts}
use Rattle.rv_faults.specs.Shown.{shown}
use Rattle.rv_command.proofs.command.shown_words.Given as goal

abbrev pub invariant-loop-word : goal.invariant-loop-word
invariant-loop-word l = map string_bytes l.shown.items ≡ map shown (texts (take l.word-index l.words))
