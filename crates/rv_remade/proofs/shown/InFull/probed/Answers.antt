use Rattle.std.proofs.Common.{◌∙◌, sym}
use Rattle.std.proofs.lemmas.Result.{IfOk-weaker}
use Rattle.rv_collide.specs.Numbers.{numbers}
use Rattle.rv_remade.proofs.ShowingLemmas.{of_walked, one_part}
use Rattle.rv_remade.proofs.shown.InFull.probed.Goals as goal

pub part-requires : goal.part-requires
part-requires c =
    let run = c.in_ok-whole.whole in
    let is_whole = c.in_ok-whole.ensures c.args.probes.now (c.requires.probes.harts_are ∙ sym c.deref.ensures.value) c.in_ok-part.ensures.part in
    c.legal_is_writable.ensures (record { start = c.args.probes.now.start; plan = numbers run.plan }) run.entries.items run.plan.in_range is_whole.legal

pub returns-clause-shown : goal.returns-clause-shown
returns-clause-shown c =
    let full = c.args.self.now in
    let run = c.in_ok-whole.whole in
    IfOk-weaker c.part.result _ _ (λ shown is. one_part full c.args.of.run run shown
    (of_walked full.hunt.now c.args.of.run run c.requires.walked (record {
      walk = c.args.probes.now;
      is_walk = c.requires.probes.is_walk;
      part = c.in_ok-part.part;
      is_part = c.in_ok-part.ensures.part;
      is_whole = c.in_ok-whole.ensures c.args.probes.now (c.requires.probes.harts_are ∙ sym c.deref.ensures.value) c.in_ok-part.ensures.part;
    })) is) c.part.ensures
