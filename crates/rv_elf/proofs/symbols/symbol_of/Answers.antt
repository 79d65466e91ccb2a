use Rattle.std.proofs.Common.{◌≡◌, Some, arith, rules}
use Rattle.rv_elf.specs.Loaded.{kept}
use Rattle.rv_elf.proofs.Facts.{kept_is}
use Rattle.rv_elf.proofs.symbols.symbol_of.Goals as goal

pub returns-clause-sound : goal.returns-clause-sound
returns-clause-sound c = λ x e.
    let is : kept c.args.names.now c.args.entry.now ≡ Some x = search rules in
    kept_is c.args.names.now c.args.entry.now x (omega arith) (omega arith) is
