use Rattle.std.proofs.Common.{◌≡◌, ◌∙◌, None, sym, arith}
use Rattle.rv_tables.specs.declared.merge.words.Words.{Words}
use Rattle.rv_tables.specs.internal.Words.{number_of}
use Rattle.rv_tables.proofs.WordLemmas.{grown, grown_keeps}
use Rattle.rv_tables.proofs.merge.words.Words.number.Goals as goal

pub returns-clause-numbered : goal.returns-clause-numbered
returns-clause-numbered c =
    let none : number_of c.args.self.now c.args.word.now ≡ None = sym c.in_default.ensures.value in
    let absent : c.in_ok-insert.field-0 ≡ None = c.in_ok-insert.ensures.old ∙ none in
    let more = rw absent at c.in_ok-insert.ensures.len in
    let after : Words = record { numbers = c.insert.new.self; longest = c.max-self.result } in
    grown c.args.self.now after c.args.word.now c.len-number.result c.requires c.len-number.ensures.len c.in_ok-insert.ensures.updates more (omega (arith, c.max-self.ensures)) (omega (arith, c.max-self.ensures))

pub returns-clause-kept : goal.returns-clause-kept
returns-clause-kept c =
    let none : number_of c.args.self.now c.args.word.now ≡ None = sym c.in_default.ensures.value in
    let after : Words = record { numbers = c.insert.new.self; longest = c.max-self.result } in
    grown_keeps c.args.self.now after c.args.word.now c.len-number.result none c.in_ok-insert.ensures.updates
