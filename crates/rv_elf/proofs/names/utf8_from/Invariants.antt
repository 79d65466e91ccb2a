-- from no place before all is UTF-8
use Rattle.std.proofs.Common.{◌≡◌, ℕ, ◌<◌, ◌≤◌, length, drop, false}
use Rattle.std.specs.Str.{is_utf8}
use Rattle.rv_elf.proofs.names.utf8_from.Given as goal

abbrev pub invariant-loop-fault : goal.invariant-loop-fault
invariant-loop-fault l = record {
  within : l.from ≤ length l.bytes;
  rest : l.rest ≡ drop l.from l.bytes;
  least : (place : ℕ) → place < l.from → is_utf8 (drop place l.bytes) ≡ false;
}

abbrev pub decreases-loop-fault : goal.decreases-loop-fault
decreases-loop-fault l = length l.rest
