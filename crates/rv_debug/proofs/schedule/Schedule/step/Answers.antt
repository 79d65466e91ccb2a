use Rattle.std.proofs.Common.{◌∙◌}
use Rattle.rv_debug.proofs.CheckpointLemmas.{accesses, only_memory, steps_on}
use Rattle.rv_debug.proofs.schedule.Schedule.step.Goals as goal

pub refused-requires : goal.refused-requires
refused-requires c =
    only_memory c.steps_of_legal_schedules.ensures.steps c.args.self.now c.facts.ensures.legal c.args.place c.args.h c.requires.there c.args.machine.now c.requires.here
    c.what_no_step_does.ensures.no_hart c.what_no_step_does.ensures.idle c.step.new.self c.in-Err.fault c.step.result c.in-Err.is c.step.ensures

pub returns-in-Ok-clause-after : goal.returns-in-Ok-clause-after
returns-in-Ok-clause-after c =
    steps_on c.steps_of_legal_schedules.ensures.steps c.args.self.now c.facts.ensures.legal c.args.place c.args.h c.requires.there c.args.machine.now c.requires.here
    c.in-Ok.event c.step.new.self c.in-Ok.ensures.step c.step.ensures.limit

pub returns-in-Ok-clause-access : goal.returns-in-Ok-clause-access
returns-in-Ok-clause-access c =
    c.accessed.ensures
    ∙ accesses c.steps_of_legal_schedules.ensures.steps c.args.self.now c.facts.ensures.legal c.args.place c.args.h c.requires.there c.args.machine.now c.requires.here
    c.in-Ok.event c.step.new.self.state c.in-Ok.ensures.step
