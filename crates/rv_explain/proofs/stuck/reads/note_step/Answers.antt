use Rattle.rv_explain.proofs.WriterLemmas.{as_step}
use Rattle.rv_explain.proofs.stuck.reads.note_step.Goals as goal

pub returns-clause-reads : goal.returns-clause-reads
returns-clause-reads c =
    as_step c.args.machine.now.state c.step.new.self.state c.args.hart c.args.place c.in-Ok.event c.access_in.result c.args.reads.now c.note_access.new.reads c.in-Ok.ensures.step c.access_in.ensures c.note_access.ensures
