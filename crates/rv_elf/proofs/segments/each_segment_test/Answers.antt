use Rattle.std.proofs.Common.{sym}
use Rattle.std.proofs.lemmas.Result.{err_from_is_err_and}
use Rattle.rv_elf.proofs.Tables.{each_passed, each_failed, each_done}
use Rattle.rv_elf.proofs.segments.each_segment_test.Goals as goal

pub returns-in_err-segment_test : goal.returns-in_err-segment_test
returns-in_err-segment_test c =
    let p = err_from_is_err_and c.from_residual.result c.from_residual.ensures.1 in
    rw (p.1, p.2) (each_failed c.args.bytes.now c.args.headers.now c.loop-header.header-index _ _ c.loop-header-test.true (sym c.in_err-segment_test.ensures) c.loop-header.invariant)

pub loop-header-preserved : goal.loop-header-preserved
loop-header-preserved c =
    each_passed c.args.bytes.now c.args.headers.now c.loop-header.header-index _ c.loop-header-test.true (sym c.in_ok-segment_test.ensures) c.loop-header.invariant

pub returns : goal.returns
returns c =
    each_done c.args.bytes.now c.args.headers.now c.loop-header.header-index c.loop-header-test.false c.loop-header.invariant
