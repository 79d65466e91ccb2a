-- the bytes so far are written behind what was there
use Rattle.std.proofs.Common.{◌≡◌, ◌++◌, take}
use Rattle.rv_markup.specs.Escaped.{escaped}
use Rattle.rv_markup.proofs.escaped.push_escaped.Given as goal

abbrev pub invariant-loop-byte : goal.invariant-loop-byte
invariant-loop-byte l = l.written.items ≡ l.fn.written.items ++ escaped (take l.byte-index l.text)
