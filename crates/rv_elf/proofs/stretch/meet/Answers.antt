use Rattle.std.proofs.Common.{◌≡◌, ◌+◌, true, false, drop, sym, ◌∙◌}
use Rattle.std.specs.List.{list_any}
use Rattle.rv_memory.specs.Memory.{meets}
use Rattle.rv_elf.proofs.Stretches.{meet_found, meet_passed}
use Rattle.rv_elf.proofs.stretch.meet.Goals as goal

pub returns-then-meets_some : goal.returns-then-meets_some
returns-then-meets_some g c =
    let extent = g.S.Stretch.extent in
    let found : list_any (λ y. meets (extent c.index-stretches-k.result) (extent y)) (drop (c.loop-k.k + 1) c.args.stretches.now) ≡ true = rw (← c.split_at.ensures.back) (sym c.meets_some.ensures ∙ c.if-meets_some.true) in
    meet_found extent c.args.stretches.now c.loop-k.k c.index-stretches-k.result c.loop-k-test.true c.index-stretches-k.is found c.loop-k.invariant

pub loop-k-preserved : goal.loop-k-preserved
loop-k-preserved g c =
    let extent = g.S.Stretch.extent in
    let passed : list_any (λ y. meets (extent c.index-stretches-k.result) (extent y)) (drop (c.loop-k.k + 1) c.args.stretches.now) ≡ false = rw (← c.split_at.ensures.back) (sym c.meets_some.ensures ∙ c.if-meets_some.false) in
    meet_passed extent c.args.stretches.now c.loop-k.k c.index-stretches-k.result c.loop-k-test.true c.index-stretches-k.is passed c.loop-k.invariant
