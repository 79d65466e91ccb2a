-- the bytes so far are in the text
use Rattle.std.proofs.Common.{◌≡◌, take}
use Rattle.rv_symbols.specs.Escaped.{escaped}
use Rattle.rv_symbols.proofs.escaped.write_escaped.Given as goal

abbrev pub invariant-loop-byte : goal.invariant-loop-byte
invariant-loop-byte l = l.text.items ≡ escaped (take l.byte-index l.name)
