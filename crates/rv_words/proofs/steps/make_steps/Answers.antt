use Rattle.std.proofs.Common.{◌∙◌, arith}
use Rattle.rv_words.proofs.StepsLemmas.{stepped_next, stepped_refused}
use Rattle.rv_words.proofs.steps.make_steps.Goals as goal

pub returns-in-Err-clause-err : goal.returns-in-Err-clause-err
returns-in-Err-clause-err c =
    let machine = c.loop-number.machine in
    c.loop-number.invariant.left ∙ stepped_refused machine.state c.args.steps.now c.loop-number.number c.in-Err.fault (omega arith) c.in-Err.ensures.refused

pub loop-number-preserved : goal.loop-number-preserved
loop-number-preserved c =
    let before = c.loop-number.machine in
    let after = c.step.new.machine in
    let event = c.in_default.field-0 in
    let steps = c.args.steps.now in
    let number = c.loop-number.number in
    record {
      left = c.loop-number.invariant.left ∙ stepped_next before.state steps number event after.state (omega arith) c.in_default.ensures.step;
      room = omega (arith, c.in_default.ensures.printed);
      limit = c.in_default.ensures.limit ∙ c.loop-number.invariant.limit;
    }
