use Rattle.rv_memory.specs.Flagged.{device}
use Rattle.rv_collide.specs.Numbers.{numbers}
use Rattle.rv_collide.proofs.BoundLemmas.{read_same, fault_same, text_front}
use Rattle.rv_collide.proofs.FrontLemmas.{broken_of_text}
use Rattle.rv_collide.proofs.schedule.reading.read_schedule.Goals as goal

pub returns-clause-ok : goal.returns-clause-ok
returns-clause-ok g c =
    let front = text_front (g.R.Read.remaining (device c.args.reader.now)) _ c.deref.result.now c.deref.ensures.value c.in_ok-text.ensures.front in
    read_same c.pieces_are_cut.ensures _ c.deref.result.now front c.read_text.result (λ said. record { numbers = numbers said.0; entries = said.1.items }) c.read_text.ensures.ok

pub returns-clause-err : goal.returns-clause-err
returns-clause-err g c =
    let front = text_front (g.R.Read.remaining (device c.args.reader.now)) _ c.deref.result.now c.deref.ensures.value c.in_ok-text.ensures.front in
    fault_same c.pieces_are_cut.ensures _ c.deref.result.now front c.read_text.result c.read_text.ensures.err

pub returns-clause-place : goal.returns-clause-place
returns-clause-place g c = broken_of_text _ _ _ c.deref.result.now c.read_text.result c.in_ok-text.ensures.taken c.deref.ensures.value c.read_text.ensures.place
