use Rattle.std.proofs.Common.{◌≡◌, ◌∙◌, ◌<◌, [], ap, arith, get_or, length, slice_get, subst}
use Rattle.std.specs.Option.{unwrap_or}
use Rattle.rv_hart.specs.State.{Guest}
use Rattle.rv_explain.proofs.StuckLemmas.{called_more, pushed}
use Rattle.rv_explain.proofs.WriterLemmas.{shown_more}
use Rattle.rv_explain.specs.Stuck.{IsCalled, does}
use Rattle.rv_explain.proofs.stuck.harts_of.Goals as goal

pub loop-h-preserved : goal.loop-h-preserved
loop-h-preserved c =
    let hart = c.in_ok-hart_of.field-0 in
    let doing = c.index-doing.result.now in
    let harts = c.args.end.now.harts.items in
    let below : c.loop-h.h < length harts = omega (arith, c.requires, c.harts-h-end.ensures.value) in
    record {
      same = c.hart_of.ensures.same ∙ c.loop-h.invariant.same;
      count = pushed c.loop-h.harts.items c.push.new.self.items hart c.loop-h.h c.in_ok-push.ensures.items c.loop-h.invariant.count;
      called = called_more c.args.symbols.now.image c.args.machine.now.state c.loop-h.harts.items c.push.new.self.items hart c.loop-h.h c.in_ok-push.ensures.items c.loop-h.invariant.count c.loop-h.invariant.called
          (subst (λ (m : Guest). IsCalled c.args.symbols.now.image m.state c.loop-h.h hart) c.loop-h.invariant.same c.in_ok-hart_of.ensures.called);
      shown = λ of are. rw c.in_ok-push.ensures.items
          (shown_more of harts c.args.reads.now c.loop-h.h doing c.loop-h.harts.items hart below are (c.loop-h.invariant.shown of are)
          (c.in_ok-hart_of.ensures.shown ∙ ap (λ d. does d (unwrap_or (slice_get c.args.reads.now c.loop-h.h) [])) (c.index-doing.ensures ∙ ap (λ n. get_or harts n doing) c.from.ensures)));
    }
