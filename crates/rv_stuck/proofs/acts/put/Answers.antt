use Rattle.std.proofs.Common.{◌≡◌, true, false, rules, ◌∙◌}
use Rattle.std.specs.Prelude.{slice_get, IfSome, IsSomeAnd}
use Rattle.rv_stuck.specs.Acts.{is_before}
use Rattle.rv_stuck.proofs.RangeLemmas.{inserted, place_in, stays}
use Rattle.rv_stuck.proofs.acts.put.Goals as goal

pub returns-then-is_there : goal.returns-then-is_there
returns-then-is_there c =
    let range = c.args.range in
    let ranges = c.args.ranges.now.items in
    let place : c.place_for-place.result ≡ place_in range ranges = search rules in
    let there : IsSomeAnd (slice_get ranges c.place_for-place.result) (λ other. is_before range other ≡ false) = search rules in
    stays range ranges c.place_for-place.result place there

pub returns : goal.returns
returns c =
    let range = c.args.range in
    let ranges = c.args.ranges.now.items in
    let place : c.place_for-place.result ≡ place_in range ranges = search rules in
    let after : IfSome (slice_get ranges c.place_for-place.result) (λ other. is_before range other ≡ true) = search rules in
    c.in_ok-insert.ensures.items ∙ inserted range ranges c.place_for-place.result place after
