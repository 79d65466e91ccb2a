use Rattle.std.proofs.Common.{◌≡◌, ◌<◌, ◌∷◌, ◌++◌, length, ap, arith, length-append}
use Rattle.std.proofs.lemmas.Bool.Decides.{nat_tests}
use Rattle.rv_asm.specs.Layout.{source_lines}
use Rattle.rv_asm.proofs.SourceLemmas.{source_lines-cut, source_lines-last}
use Rattle.rv_asm.proofs.passes.source.first_line.Goals as goal

pub returns-in-Some : goal.returns-in-Some
returns-in-Some c =
    let size : length c.args.source.now ≡ length (c.in-Some.line.now ++ 10 ∷ c.in-Some.rest.now) = ap length c.in-Some.ensures.1 in (
      source_lines-cut _ _ _ c.in-Some.rest.now c.in-Some.ensures.0 c.without_return.ensures c.in-Some.ensures.1,
      omega (arith, size, length-append c.in-Some.line.now (10 ∷ c.in-Some.rest.now)),
    )

pub returns-in-None : goal.returns-in-None
unfolding source_lines
returns-in-None c =
    let some : 0 < length c.args.source.now = grind (arith, nat_tests) in
    (source_lines-last _ some c.in-None.ensures, some)
