use Rattle.std.proofs.Common.{Global, Vec, ℕ, List}
use Rattle.std.specs.Prelude.{map}
use Rattle.rv_locked.proofs.OwnLemmas.{all_own, at_map, one_more_own, stray_is}
use Rattle.rv_locked.proofs.own.first_stray.Goals as goal

abbrev listed : Vec ℕ Global → List ℕ
listed v = v.items

pub returns-then-not-is_own-clause-some : goal.returns-then-not-is_own-clause-some
returns-then-not-is_own-clause-some c =
    stray_is c.args.driver.now (map listed c.args.places.now) c.loop-h.h c.index-places-h.result.items c.as_slice-list.result.now c.is_own.result
    (at_map listed c.args.places.now c.loop-h.h c.index-places-h.result c.index-places-h.result c.loop-h-test.true c.index-places-h.is)
    c.as_slice-list.ensures.value c.is_own.ensures c.if-not-is_own.true c.loop-h.invariant

pub loop-h-preserved : goal.loop-h-preserved
loop-h-preserved c =
    one_more_own c.args.driver.now (map listed c.args.places.now) c.loop-h.h c.index-places-h.result.items c.as_slice-list.result.now c.is_own.result
    (at_map listed c.args.places.now c.loop-h.h c.index-places-h.result c.index-places-h.result c.loop-h-test.true c.index-places-h.is)
    c.as_slice-list.ensures.value c.is_own.ensures c.if-not-is_own.false c.loop-h.invariant

pub returns-clause-none : goal.returns-clause-none
returns-clause-none c =
    all_own listed c.args.driver.now c.args.places.now c.loop-h.h c.loop-h-test.false c.loop-h.invariant
