use Rattle.std.proofs.Common.{◌≡◌, None, sym}
use Rattle.std.specs.Prelude.{slice_get}
use Rattle.rv_asm.specs.Bytes.{low_byte}
use Rattle.rv_asm.proofs.BytesLemmas.{values-more, values-fault, values-done}
use Rattle.rv_asm.proofs.passes.bytes.low_bytes.Goals as goal

pub loop-value-preserved : goal.loop-value-preserved
loop-value-preserved c =
    values-more low_byte c.args.labels.now c.loop-value.bytes.items c.push.new.self.items _ c.in-Some.value c.loop-value.values c.next_value.new.self c.in-Ok.word c.in-Some.ensures.first c.in-Some.ensures.rest (sym c.in-Ok.ensures) ((c.in_ok-push-in-Ok.ensures {u = tt}).items) c.loop-value.invariant

pub returns-in-Err : goal.returns-in-Err
returns-in-Err c =
    sym (values-fault low_byte c.args.labels.now c.loop-value.bytes.items _ c.in-Some.value c.loop-value.values c.in-Err.kind c.in-Some.ensures.first (sym c.in-Err.ensures) c.loop-value.invariant)

pub returns : goal.returns
returns c =
    let none : None ≡ slice_get c.loop-value.values 0 = cc (c.in_default.ensures.first) in
    sym (values-done low_byte c.args.labels.now c.loop-value.bytes.items _ c.loop-value.values none c.loop-value.invariant)
