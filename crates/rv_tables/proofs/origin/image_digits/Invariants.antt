-- the digits of the bytes so far
use Rattle.std.proofs.Common.{◌≡◌, take}
use Rattle.std.specs.List.{flat_map}
use Rattle.rv_text.specs.Hexadecimal.{byte_digits}
use Rattle.rv_tables.proofs.origin.image_digits.Given as goal

abbrev pub invariant-loop-byte : goal.invariant-loop-byte
invariant-loop-byte l = l.digits.items ≡ flat_map byte_digits (take l.byte-index l.first)
