-- the words that are kept and those to come give what the whole line gives
use Rattle.std.proofs.Common.{◌≡◌, drop}
use Rattle.rv_command.specs.Color.{colored}
use Rattle.rv_command.specs.Command.{texts}
use Rattle.rv_command.specs.declared.color.Color.TheVariants.{Auto}
use Rattle.rv_command.specs.internal.Colors.{line_with}
use Rattle.rv_command.proofs.color.color_line.Given as goal

abbrev pub invariant-loop-word : goal.invariant-loop-word
invariant-loop-word l = line_with l.line l.place (texts (drop l.word-index l.words)) ≡ colored Auto (texts l.words)
