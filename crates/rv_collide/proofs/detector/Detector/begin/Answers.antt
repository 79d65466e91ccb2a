use Rattle.std.proofs.Common.{◌+◌, ◌≤◌, List, [], length, sym, ap, subst, ◌∙◌, arith}
use Rattle.rv_collide.specs.Numbers.{numbers}
use Rattle.rv_collide.specs.Begun.{setting_of, begun}
use Rattle.rv_collide.specs.declared.ending.Ending.{Ending}
use Rattle.rv_collide.specs.declared.entry.Entry.{Entry}
use Rattle.rv_collide.specs.declared.open_pause.OpenPause.{OpenPause}
use Rattle.rv_collide.specs.internal.Core.{IsCore}
use Rattle.rv_hart.specs.State.{Guest}
use Rattle.rv_collide.proofs.Begun.{core_new}
use Rattle.rv_collide.proofs.Until.{until_new}
use Rattle.rv_collide.proofs.detector.Detector.begin.Goals as goal

pub invariant_of-result : goal.invariant_of-result
invariant_of-result g c =
    let machine = c.args.machine in
    let begin = c.of.result.value in
    let s = setting_of (begun begin.state (numbers c.args.plan) []) in
    let same = c.of.ensures in
    let core = core_new s machine c.in_ok-breaks.breaks
    (ap (λ (m : Guest). m.state) (sym same))
    (ap (λ (m : Guest). length m.state.harts) same ∙ c.requires.harts)
    (subst (λ (m : Guest). length m.state.output + c.args.plan.steps ≤ machine.limit) (sym same) c.requires.room)
    c.in_ok-breaks.ensures in (
      subst (λ (xs : List Entry). IsCore s xs machine c.in_ok-breaks.breaks c.in_ok-openings.openings.items c.in_ok-endings.endings.items 0 0) (sym c.in_ok-entries.ensures.items)
          (subst (λ (ps : List OpenPause). IsCore s [] machine c.in_ok-breaks.breaks ps c.in_ok-endings.endings.items 0 0) (sym c.in_ok-openings.ensures.items)
          (subst (λ (es : List Ending). IsCore s [] machine c.in_ok-breaks.breaks [] es 0 0) (sym c.in_ok-endings.ensures.items) core)),
      record {
        for_entries = omega (arith, c.in_ok-entries.ensures.capacity, c.most_entries.ensures);
        for_openings = omega (arith, c.in_ok-openings.ensures.capacity);
        for_endings = omega (arith, c.in_ok-endings.ensures.capacity);
      },
      until_new c.args.plan.steps c.args.plan.slots c.in_ok-breaks.breaks c.in_ok-openings.openings.items c.in_ok-breaks.ensures c.in_ok-openings.ensures.items,
      c.nothing.ensures.flag,
    )
