use Rattle.rv_collide.proofs.StepFaults.{only_memory}
use Rattle.rv_collide.proofs.detector.stepped.Goals as goal

pub returns-in-Err-clause-memory : goal.returns-in-Err-clause-memory
returns-in-Err-clause-memory g c = λ runs room.
    only_memory c.args.machine.now c.args.h c.in-Err.field-0 c.step.result c.in-Err.is runs room c.step.ensures.no_hart c.step.ensures.not_running c.step.ensures.output_full c.step.ensures.no_memory
