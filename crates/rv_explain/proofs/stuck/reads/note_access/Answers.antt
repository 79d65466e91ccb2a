use Rattle.std.proofs.Common.{None, refl}
use Rattle.rv_explain.proofs.WriterLemmas.{none_noted}
use Rattle.rv_explain.proofs.stuck.reads.note_access.Goals as goal

pub returns-in-None : goal.returns-in-None
returns-in-None c = rw c.in-None.is (none_noted None None (λ read. refl) c.args.reads.now)
