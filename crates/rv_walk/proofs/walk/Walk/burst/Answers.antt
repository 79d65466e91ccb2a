use Rattle.std.proofs.Common.{◌+◌, ap, ◌∙◌, arith}
use Rattle.rv_walk.specs.Burst.{IsShortened, longer}
use Rattle.rv_walk.specs.Walked.{Walked}
use Rattle.rv_walk.proofs.BurstLemmas.{longer_longer}
use Rattle.rv_walk.proofs.ResultLemmas.{on_err}
use Rattle.rv_walk.proofs.walk.Walk.burst.Goals as goal

pub returns-in_err-step-clause-refused : goal.returns-in_err-step-clause-refused
returns-in_err-step-clause-refused g c =
    let last : IsShortened c.loop-turn.self c.step.new.self c.args.h 1 = c.in_err-step.ensures.refused in
    let it : IsShortened c.args.self.now c.step.new.self c.args.h c.args.most = record {
      turns = c.loop-turn.turn + last.turns;
      within = omega arith;
      walk = last.walk ∙ ap (λ (v : Walked). longer v c.args.h last.turns) c.loop-turn.invariant.walk ∙ longer_longer c.args.self.now c.args.h c.loop-turn.turn last.turns;
    } in
    on_err c.from_residual.result _ it
