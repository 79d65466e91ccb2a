use Rattle.std.proofs.Common.{◌<◌, None, Some, length, get_or, arith}
use Rattle.std.proofs.lemmas.List.{get_or_default}
use Rattle.std.proofs.lemmas.List.Edits.{map_over_more}
use Rattle.rv_explain.specs.internal.Writers.{noted}
use Rattle.rv_explain.specs.declared.stuck.ReadBytes.{ReadBytes}
use Rattle.rv_explain.proofs.stuck.reads.note.Goals as goal

pub loop-read-preserved : goal.loop-read-preserved
loop-read-preserved c =
    let default : ReadBytes = record { first = 0; size = 0; value = 0; writer = None } in
    let within : c.loop-read.read-index < length c.loop-read.reads = omega arith in
    let from : c.loop-read.read-index < length c.args.reads.now = omega arith in
    rw c.note_one.ensures (map_over_more (noted (Some c.args.writer) (Some c.args.access.now)) c.args.reads.now c.loop-read.reads c.loop-read.read-index (get_or c.loop-read.reads c.loop-read.read-index default) from c.loop-read.invariant (get_or_default c.loop-read.reads c.loop-read.read-index default _ within))
