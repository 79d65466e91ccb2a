use Rattle.std.proofs.Common.{◌≡◌, ◌+◌, ◌≤◌, arith}
use Rattle.rv_collide.specs.Entries.{between}
use Rattle.rv_collide.specs.Pause.{within}
use Rattle.rv_races.specs.Judged.{last_store, seen_within}
use Rattle.rv_explain.proofs.BlockLemmas.{before_passed, last_passed, meets_passed}
use Rattle.rv_explain.proofs.walk.walk.Goals as goal

pub loop-place-preserved : goal.loop-place-preserved
loop-place-preserved c =
    let le : c.args.told.now.paused_at + 1 ≤ c.loop-place.place = omega arith in
    record {
      here = rw c.loop-place.invariant.here at c.in_ok-pass.ensures.after;
      last = last_passed c.args.session.now c.loop-place.session c.args.told.now c.loop-place.place c.loop-place.walked.last c.pass.new.self.last c.loop-place.invariant.here le c.loop-place.invariant.last c.in_ok-pass.ensures.last;
      before = before_passed c.args.session.now c.loop-place.session c.args.told.now c.loop-place.place c.loop-place.walked.last c.pass.new.self.last c.loop-place.invariant.here c.loop-place.invariant.before c.in_ok-pass.ensures.last;
      meets = meets_passed c.args.session.now c.loop-place.session c.args.told.now c.loop-place.place c.loop-place.walked.meets.items c.pass.new.self.meets.items c.loop-place.invariant.here le c.loop-place.invariant.meets c.in_ok-pass.ensures.meets;
    }

pub returns-clause-last : goal.returns-clause-last
unfolding last_store seen_within within between
returns-clause-last c =
    let end : c.loop-place.place ≡ c.args.told.now.resumed_at = omega arith in
    rw end at c.loop-place.invariant.last

pub returns-clause-meets : goal.returns-clause-meets
unfolding within between
returns-clause-meets c =
    let end : c.loop-place.place ≡ c.args.told.now.resumed_at = omega arith in
    rw end at c.loop-place.invariant.meets
