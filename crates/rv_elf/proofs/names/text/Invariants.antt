-- the bytes so far, in front of what is read of the rest
use Rattle.std.proofs.Common.{◌≡◌, ◌++◌, take, drop}
use Rattle.std.specs.Option.{option_map}
use Rattle.rv_elf.specs.Loaded.{text}
use Rattle.rv_elf.proofs.names.text.Given as goal

abbrev pub invariant-loop-n : goal.invariant-loop-n
invariant-loop-n l = option_map (λ rest. take l.n l.bytes ++ rest) (text (drop l.n l.bytes)) ≡ text l.bytes
