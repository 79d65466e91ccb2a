use Rattle.std.proofs.Common.{◌≡◌, ◌++◌, take}
use Rattle.std.specs.List.{flat_map}
use Rattle.rv_elf.specs.Written.{terminated}
use Rattle.rv_elf.proofs.writing.put_names.Given as goal

abbrev pub invariant-loop-symbol : goal.invariant-loop-symbol
invariant-loop-symbol l =
    l.out.items ≡ l.initial.out.items ++ flat_map (λ s. terminated s.name) (take l.symbol-index l.symbols)
