use Rattle.std.specs.Prelude.{slice_set}
use Rattle.rv_waits.specs.Touched.{in_instructions, in_ranges}
use Rattle.rv_waits.proofs.TouchedLemmas.{covers_kept, covers_range, range_there, ranges_kept}
use Rattle.rv_waits.proofs.touched.touch_range.Goals as goal

pub returns-in-Some-clause-kept : goal.returns-in-Some-clause-kept
returns-in-Some-clause-kept c =
    let t = c.args.touched.now in
    let range = c.args.range in
    let place = c.in-Some.place in
    λ address h. covers_kept t.is_all (in_instructions t.least_pc t.greatest_pc address) (in_ranges t.ranges address) (in_ranges (slice_set t.ranges place range) address) (ranges_kept t.ranges place range address c.in-Some.ensures) h

pub returns-in-Some-clause-range : goal.returns-in-Some-clause-range
returns-in-Some-clause-range c =
    let t = c.args.touched.now in
    let range = c.args.range in
    let place = c.in-Some.place in
    λ address h. covers_range t.is_all (in_instructions t.least_pc t.greatest_pc address) (in_ranges (slice_set t.ranges place range) address) (range_there t.ranges place range address c.in-Some.ensures h)
