use Rattle.std.proofs.Common.{◌∙◌, sym}
use Rattle.rv_races.proofs.JudgedLemmas.{no_step, none_seen, one_seen, one_step}
use Rattle.rv_races.proofs.judged.make_step.Goals as goal

pub returns-in_default : goal.returns-in_default
returns-in_default g c =
    let none = sym c.in_default.is ∙ c.stepped_by.ensures in
    record {
      on = no_step c.args.machine.now.state _ none;
      seen = none_seen c.args.machine.now.state c.args.place _ none;
    }

pub returns-in-Ok : goal.returns-in-Ok
returns-in-Ok g c =
    let some = sym c.in-Some.is ∙ c.stepped_by.ensures in
    let step = rw c.in-Ok.is at c.step.ensures.step in
    record {
      on = one_step c.args.machine.now.state c.step.new.self.state c.in-Ok.event _ c.in-Some.hart some step;
      seen = one_seen c.args.machine.now.state c.step.new.self.state c.in-Ok.event c.args.place _ c.in-Some.hart c.seen_by.result some step (rw c.accessed.ensures at c.seen_by.ensures);
    }
