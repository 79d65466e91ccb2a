use Rattle.std.proofs.Common.{Some}
use Rattle.rv_explain.proofs.WriterLemmas.{no_write, none_noted}
use Rattle.rv_explain.specs.StuckReads.{written_by}
use Rattle.rv_explain.proofs.stuck.reads.note_made.Goals as goal

pub returns-else-made : goal.returns-else-made
returns-else-made c = none_noted (written_by c.args.hart c.args.place (Some c.args.made)) (Some c.args.made) (no_write (written_by c.args.hart c.args.place (Some c.args.made)) c.args.made c.if-made.false) c.args.reads.now
