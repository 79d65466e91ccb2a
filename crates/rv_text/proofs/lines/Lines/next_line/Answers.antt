use Rattle.std.proofs.Common.{◌<◌, length, sym, ◌∙◌, refl, arith}
use Rattle.std.proofs.lemmas.Bool.Decides.{nat_tests}
use Rattle.rv_text.proofs.LineLemmas.{lines_of-cut, lines_of-last}
use Rattle.rv_text.proofs.lines.Lines.next_line.Goals as goal

pub returns-in-Some-clause-first : goal.returns-in-Some-clause-first
returns-in-Some-clause-first c =
    let lines = sym c.self.view_is ∙ lines_of-cut _ c.in-Some.line.now c.in-Some.rest.now c.in-Some.ensures.0 c.in-Some.ensures.1 in
    rw lines refl

pub returns-in-Some-clause-rest : goal.returns-in-Some-clause-rest
returns-in-Some-clause-rest c =
    let lines = sym c.self.view_is ∙ lines_of-cut _ c.in-Some.line.now c.in-Some.rest.now c.in-Some.ensures.0 c.in-Some.ensures.1 in
    rw lines refl

pub returns-in-None-clause-first : goal.returns-in-None-clause-first
returns-in-None-clause-first c =
    let some : 0 < length c.self.inside.rest.now = grind (arith, nat_tests) in
    let lines = sym c.self.view_is ∙ lines_of-last c.self.inside.rest.now some c.in-None.ensures in
    rw lines refl

pub returns-in-None-clause-rest : goal.returns-in-None-clause-rest
returns-in-None-clause-rest c =
    let some : 0 < length c.self.inside.rest.now = grind (arith, nat_tests) in
    let lines = sym c.self.view_is ∙ lines_of-last c.self.inside.rest.now some c.in-None.ensures in
    rw lines refl
