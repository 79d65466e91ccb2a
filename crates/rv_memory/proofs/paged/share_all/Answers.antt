use Rattle.std.proofs.Common.{◌<◌, ◌∙◌, length, arith}
use Rattle.rv_memory.proofs.Lie.{same_extent, more_extents}
use Rattle.rv_memory.proofs.paged.share_all.Goals as goal

pub returns-in_err-share-clause-same : goal.returns-in_err-share-clause-same
returns-in_err-share-clause-same c =
    let tables = c.loop-found.tables in
    let below : c.loop-found.found < length tables.items = omega (arith, tables.ok.0) in
    same_extent tables.items c.loop-found.found c.index_mut.result.now c.share.new.self below c.index_mut.ensures.value c.share.ensures.same ∙ c.loop-found.invariant.same

pub returns-in_err-push-clause-same : goal.returns-in_err-push-clause-same
returns-in_err-push-clause-same c =
    let tables = c.loop-found.tables in
    let below : c.loop-found.found < length tables.items = omega (arith, tables.ok.0) in
    same_extent tables.items c.loop-found.found c.index_mut.result.now c.share.new.self below c.index_mut.ensures.value c.share.ensures.same ∙ c.loop-found.invariant.same

pub loop-found-preserved : goal.loop-found-preserved
loop-found-preserved c =
    let tables = c.loop-found.tables in
    let below : c.loop-found.found < length tables.items = omega (arith, tables.ok.0) in
    rw c.in_ok-push.ensures.items (record {
      end = c.loop-found.invariant.end;
      same = same_extent tables.items c.loop-found.found c.index_mut.result.now c.share.new.self below c.index_mut.ensures.value c.share.ensures.same ∙ c.loop-found.invariant.same;
      equal = more_extents tables.items c.loop-found.copies.items _ c.loop-found.found c.index_mut.result.now c.in_ok-share.field-0 below c.index_mut.ensures.value c.loop-found.invariant.same c.in_ok-share.ensures.equal c.loop-found.invariant.equal;
    })
