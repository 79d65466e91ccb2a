use Rattle.rv_explain.proofs.WriterLemmas.{as_entry, unstepped}
use Rattle.rv_explain.proofs.stuck.reads.note_entry.Goals as goal

pub returns-in-None-clause-reads : goal.returns-in-None-clause-reads
returns-in-None-clause-reads c = unstepped c.args.entry c.args.machine.now.state c.args.place c.args.reads.now c.in-None.ensures

pub returns-in_ok-note_step-in-Some-clause-reads : goal.returns-in_ok-note_step-in-Some-clause-reads
returns-in_ok-note_step-in-Some-clause-reads c =
    as_entry c.args.entry c.args.machine.now.state c.args.place c.in-Some.hart c.args.reads.now c.note_step.new.reads c.in-Some.ensures c.in_ok-note_step-in-Some.ensures.reads
