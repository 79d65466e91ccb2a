use Rattle.std.proofs.Common.{◌<◌, ◌∙◌, length, arith, ap}
use Rattle.std.proofs.lemmas.List.Elements.{All-push, All-set}
use Rattle.rv_memory.specs.internal.Paged.{IsPage}
use Rattle.rv_memory.proofs.InPages.{same_in, more_shared}
use Rattle.rv_memory.proofs.paged.pages.share_all.Goals as goal

pub returns-in_err-share-clause-same : goal.returns-in_err-share-clause-same
returns-in_err-share-clause-same c =
    let pages = c.loop-place.pages in
    let below : c.loop-place.place < length pages.items = omega (arith, pages.ok.0) in
    same_in pages.items c.index_mut.result.now c.share.new.self _ c.loop-place.invariant.whole below c.index_mut.ensures.value c.share.ensures.bytes ∙ c.loop-place.invariant.same

pub returns-in_err-push-clause-same : goal.returns-in_err-push-clause-same
returns-in_err-push-clause-same c =
    let pages = c.loop-place.pages in
    let below : c.loop-place.place < length pages.items = omega (arith, pages.ok.0) in
    same_in pages.items c.index_mut.result.now c.share.new.self _ c.loop-place.invariant.whole below c.index_mut.ensures.value c.share.ensures.bytes ∙ c.loop-place.invariant.same

pub loop-place-preserved : goal.loop-place-preserved
loop-place-preserved c =
    let pages = c.loop-place.pages in
    let kept = c.index_mut.result.now in
    let new = c.share.new.self in
    let copy = c.in_ok-share.field-0 in
    let below : c.loop-place.place < length pages.items = omega (arith, pages.ok.0) in
    let was : IsPage kept = ap (λ p. length p.bytes) c.index_mut.ensures.value ∙ c.loop-place.invariant.whole c.loop-place.place kept below in
    rw c.in_ok-push.ensures.items (record {
      end = c.loop-place.invariant.end;
      whole = All-set IsPage pages.items c.loop-place.place new (ap length c.share.ensures.bytes ∙ was) c.loop-place.invariant.whole;
      same = same_in pages.items kept new _ c.loop-place.invariant.whole below c.index_mut.ensures.value c.share.ensures.bytes ∙ c.loop-place.invariant.same;
      all_whole = All-push IsPage c.loop-place.copies.items copy c.loop-place.invariant.all_whole (ap length c.in_ok-share.ensures.equal ∙ was);
      equal = more_shared pages.items c.loop-place.copies.items c.loop-place.place kept new copy below c.share.ensures.bytes c.in_ok-share.ensures.equal c.loop-place.invariant.equal;
    })
