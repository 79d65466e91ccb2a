use Rattle.std.proofs.Common.{◌≡◌, ◌++◌, length, ap, sym, ◌∙◌, arith}
use Rattle.std.proofs.lemmas.List.{append-nil}
use Rattle.std.specs.Vec.{vec_len}
use Rattle.rv_memory.specs.Extent.{Extent}
use Rattle.rv_sample.proofs.Segments.{none_before, all_words, word_added}
use Rattle.rv_sample.proofs.scan.add_sites.Goals as goal
use Rattle.rv_sample.proofs.scan.add_sites.Goals.{then-is_site+in_ok-push, else-is_site}

pub loop-address-init : goal.loop-address-init
loop-address-init c =
    let start = ap (λ (e : Extent). e.start) c.segment.view_is in
    record {
      aligned = c.next_multiple_of-address.ensures.multiple;
      below = omega (arith, c.requires.segment.ends);
      from = omega arith;
      is = sym (ap (λ xs. c.args.found.now.items ++ xs) (none_before c.args.segment.now c.args.excluded.now c.next_multiple_of-address.result (omega arith) c.next_multiple_of-address.ensures.multiple (omega arith))
          ∙ append-nil c.args.found.now.items);
    }

pub loop-address-preserved : goal.loop-address-preserved
loop-address-preserved c =
    let start = ap (λ (e : Extent). e.start) c.segment.view_is in
    let size : vec_len c.segment.inside.bytes ≡ length c.args.segment.now.bytes = c.segment.inside.bytes.ok.0 ∙ ap (λ (e : Extent). length e.bytes) c.segment.view_is in
    let within = c.requires.segment.within in
    let ends = c.requires.segment.ends in
    record {
      aligned = omega arith;
      below = omega arith;
      from = omega arith;
      is = word_added c.args.segment.now c.args.excluded.now c.args.found.now.items c.loop-address.found.items c.if-is_site.found.items c.loop-address.address c.is_site.result c.loop-address.invariant.from c.loop-address.invariant.aligned c.is_site.ensures c.loop-address.invariant.is
          (elim c.if-is_site.branch [
            | then-is_site+in_ok-push w ↦ rw (w.found-is, w.if-is_site.true) w.in_ok-push.ensures.items
            | else-is_site w ↦ rw (w.found-is, w.if-is_site.false)
          ]);
    }

pub returns : goal.returns
returns c =
    let start = ap (λ (e : Extent). e.start) c.segment.view_is in
    let size : vec_len c.segment.inside.bytes ≡ length c.args.segment.now.bytes = c.segment.inside.bytes.ok.0 ∙ ap (λ (e : Extent). length e.bytes) c.segment.view_is in
    c.loop-address.invariant.is
    ∙ ap (λ xs. c.args.found.now.items ++ xs) (all_words c.args.segment.now c.args.excluded.now c.loop-address.address c.requires.segment c.loop-address.invariant.from (omega arith))
