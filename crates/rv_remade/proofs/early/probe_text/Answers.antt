use Rattle.std.proofs.Common.{◌∙◌, sym}
use Rattle.rv_collide.specs.Numbers.{numbers}
use Rattle.rv_remade.proofs.early.probe_text.Goals as goal

pub written-requires : goal.written-requires
written-requires c =
    let run = c.in_ok-whole.whole in
    let is_whole = c.in_ok-whole.ensures c.args.probes.now (c.requires.probes.harts_are ∙ sym c.deref.ensures.value) c.in_ok-part.ensures.part in
    rw c.deref-2.ensures.value (c.legal_is_writable.ensures (record { start = c.args.probes.now.start; plan = numbers run.plan }) run.entries.items run.plan.in_range is_whole.legal)
