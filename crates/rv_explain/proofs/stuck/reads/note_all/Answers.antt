use Rattle.std.proofs.Common.{◌<◌, Some, length, get_or, map, arith}
use Rattle.std.proofs.lemmas.List.{get_or_default}
use Rattle.std.proofs.lemmas.List.Edits.{map_over_more}
use Rattle.rv_explain.specs.internal.Writers.{noted}
use Rattle.rv_explain.proofs.stuck.reads.note_all.Goals as goal

pub loop-of_hart-preserved : goal.loop-of_hart-preserved
loop-of_hart-preserved c =
    let within : c.loop-of_hart.of_hart-index < length c.loop-of_hart.reads = omega arith in
    let from : c.loop-of_hart.of_hart-index < length c.args.reads.now = omega arith in
    rw c.note.ensures (map_over_more (map (noted (Some c.args.writer) (Some c.args.access.now))) c.args.reads.now c.loop-of_hart.reads c.loop-of_hart.of_hart-index (get_or c.loop-of_hart.reads c.loop-of_hart.of_hart-index c.of_hart-item.result) from c.loop-of_hart.invariant (get_or_default c.loop-of_hart.reads c.loop-of_hart.of_hart-index c.of_hart-item.result _ within))
