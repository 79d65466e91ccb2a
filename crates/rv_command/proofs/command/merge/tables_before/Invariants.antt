-- the words so far are tables, so that as many more are as stand before the first option of the rest
use Rattle.std.proofs.Common.{◌≡◌, ◌+◌, drop}
use Rattle.rv_command.specs.Command.{texts}
use Rattle.rv_command.specs.MergeLine.{tables_before}
use Rattle.rv_command.proofs.command.merge.tables_before.Given as goal

abbrev pub invariant-loop-place : goal.invariant-loop-place
invariant-loop-place l = l.place + tables_before (texts (drop l.place l.words)) ≡ tables_before (texts l.words)
