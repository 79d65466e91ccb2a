use Rattle.std.proofs.Common.{◌<◌, length, sym, arith}
use Rattle.rv_lines.specs.SourceLines.{frame_of}
use Rattle.rv_tables.proofs.WordLemmas.{long_function}
use Rattle.rv_tables.proofs.merge.words.Words.function_of.Goals as goal

pub returns-then-function-self : goal.returns-then-function-self
returns-then-function-self c =
    let long : c.args.self.now.longest < length c.in-Some.function.now = omega (arith, c.if-function-self.true) in
    sym (long_function c.args.self.now c.requires (frame_of c.args.frame.now) c.in-Some.function.now (sym c.in-Some.ensures) long)
