-- what is left decides
use Rattle.std.proofs.Common.{◌≡◌, drop}
use Rattle.rv_lines.specs.SourceLines.{controls, has_control}
use Rattle.rv_lines.proofs.checks.has_control.Given as goal

abbrev pub invariant-loop-byte : goal.invariant-loop-byte
invariant-loop-byte l = controls l.before (drop l.byte-index l.text) ≡ has_control l.text
