use Rattle.std.proofs.Common.{◌≡◌, ℕ, ◌+◌, ◌^◌, ap, sym, subst, ◌∙◌, arith}
use Rattle.rv_memory.specs.Extent.{Extent, end_of}
use Rattle.rv_sample.specs.Sites.{sites, sites_among}
use Rattle.rv_sample.specs.internal.Code.{IsScanned}
use Rattle.rv_sample.proofs.Segments.{AreApart, segments_apart, begun, next_segment, is_next, one_segment_more, all_scanned}
use Rattle.rv_sample.proofs.scan.scanned.Goals as goal

pub loop-segment-init : goal.loop-segment-init
loop-segment-init c = rw c.new-found.ensures.items (begun c.segments-segments.result.now c.args.excluded.now)

pub add_sites-requires-clause-segment : goal.add_sites-requires-clause-segment
add_sites-requires-clause-segment c =
    next_segment c.segments-segments.result.now c.loop-segment.from c.in-Some.segment.now
    (subst AreApart (sym c.segments-segments.ensures.value) (segments_apart c.args.image.now c.segments-segments.ensures.valid))
    (sym c.in-Some.ensures)

pub add_sites-requires-clause-executable : goal.add_sites-requires-clause-executable
add_sites-requires-clause-executable c = (is_next c.segments-segments.result.now c.loop-segment.from c.in-Some.segment.now (sym c.in-Some.ensures)).executable

pub loop-segment-smaller : goal.loop-segment-smaller
loop-segment-smaller c =
    let n = is_next c.segments-segments.result.now c.loop-segment.from c.in-Some.segment.now (sym c.in-Some.ensures) in
    let after = n.after in
    let s = next_segment c.segments-segments.result.now c.loop-segment.from c.in-Some.segment.now
    (subst AreApart (sym c.segments-segments.ensures.value) (segments_apart c.args.image.now c.segments-segments.ensures.valid))
    (sym c.in-Some.ensures) in
    let start = ap (λ (e : Extent). e.start) c.segment.view_is in
    let len = ap (λ (e : Extent). e.len) c.segment.view_is in
    omega (arith, after, s.some, s.ends)

pub loop-segment-preserved : goal.loop-segment-preserved
loop-segment-preserved c =
    let facts = subst AreApart (sym c.segments-segments.ensures.value) (segments_apart c.args.image.now c.segments-segments.ensures.valid) in
    let start = ap (λ (e : Extent). e.start) c.segment.view_is in
    let len = ap (λ (e : Extent). e.len) c.segment.view_is in
    let ends : end_of c.in-Some.segment.now ≡ c.from.result + c.from-in-Some.result = omega arith in
    subst (λ (k : ℕ). IsScanned c.segments-segments.result.now c.args.excluded.now k c.add_sites.new.found.items) ends
    (one_segment_more c.segments-segments.result.now c.args.excluded.now c.loop-segment.from c.loop-segment.found.items c.add_sites.new.found.items c.in-Some.segment.now facts c.loop-segment.invariant (sym c.in-Some.ensures) c.in_ok-add_sites.ensures)

pub returns : goal.returns
unfolding sites
returns c =
    let facts = subst AreApart (sym c.segments-segments.ensures.value) (segments_apart c.args.image.now c.segments-segments.ensures.valid) in
    all_scanned c.segments-segments.result.now c.args.excluded.now c.loop-segment.from c.loop-segment.found.items facts c.loop-segment.invariant (sym c.in_default.ensures)
    ∙ ap (λ es. sites_among es c.args.excluded.now 0 (2 ^ 32)) c.segments-segments.ensures.value
