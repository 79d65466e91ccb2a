use Rattle.std.proofs.Common.{◌<◌, length, refl, arith}
use Rattle.rv_collide.specs.Entries.{steps}
use Rattle.rv_collide.specs.StateAt.{state_at}
use Rattle.rv_collide.specs.declared.entry.Entry.TheVariants.{Stepped}
use Rattle.rv_explain.proofs.StuckLemmas.{state_next}
use Rattle.rv_explain.proofs.WriterLemmas.{written_more}
use Rattle.rv_explain.proofs.stuck.reads.find_writers.Goals as goal

pub loop-place-init : goal.loop-place-init
unfolding state_at steps
loop-place-init c = record { here = refl; reads = c.requires }

pub loop-place-preserved : goal.loop-place-preserved
loop-place-preserved c =
    let below : c.loop-place.place < length c.args.entries.now = omega arith in
    record {
      here = state_next c.args.machine.now.state c.loop-place.machine.state c.note_entry.new.machine.state c.args.entries.now c.loop-place.place (Stepped 0) below c.loop-place.invariant.here c.in_ok-note_entry.ensures.state;
      reads = written_more c.args.machine.now.state c.loop-place.machine.state c.args.entries.now c.loop-place.place (Stepped 0) c.args.reads.now c.loop-place.reads c.note_entry.new.reads below c.loop-place.invariant.here c.loop-place.invariant.reads c.in_ok-note_entry.ensures.reads;
    }
