use Rattle.std.proofs.Common.{◌<◌, ap, length, sym, arith}
use Rattle.rv_elf.specs.Contents.{Named}
use Rattle.rv_tables.proofs.WordLemmas.{too_long}
use Rattle.rv_tables.proofs.merge.words.Words.name_of.Goals as goal

pub returns-then-len-self : goal.returns-then-len-self
returns-then-len-self c =
    let view = ap (λ (s : Named). length s.name) c.symbol.view_is in
    let long : c.args.self.now.longest < length c.args.symbol.now.name = omega (arith, view, c.len.ensures) in
    sym (too_long c.args.self.now c.requires c.args.symbol.now.name long)
