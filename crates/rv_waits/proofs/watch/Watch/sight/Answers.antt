use Rattle.std.proofs.Common.{ℕ, Option, subst, sym, ◌∙◌}
use Rattle.std.specs.Prelude.{IfSome}
use Rattle.rv_hart.specs.Fetched.{IsWordOf}
use Rattle.rv_waits.proofs.MoveLemmas.{not_conditional}
use Rattle.rv_waits.proofs.watch.Watch.sight.Goals as goal

pub returns-then-not-has_anchor : goal.returns-then-not-has_anchor
returns-then-not-has_anchor g c = λ set_at. absurd (c.has_anchor.ensures c.if-not-has_anchor.true set_at)

pub returns-then-not-may_write : goal.returns-then-not-may_write
returns-then-not-may_write g c = λ set_at.
    let s = c.args.machine.now.state in
    let is_word : IsWordOf s c.args.h c.in-Some.word = subst (λ (o : Option ℕ). IfSome o (IsWordOf s c.args.h)) c.in-Some.is c.requires.word in
    not_conditional c.functions_of_the_table.ensures s c.args.h c.in-Some.word is_word (sym c.may_write.ensures ∙ c.if-not-may_write.true)

pub returns : goal.returns
returns g c = c.sight_of_bytes.ensures c.args.self.now
