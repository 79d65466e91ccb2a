use Rattle.std.proofs.Common.{◌/◌, length, arith, sym, ◌∙◌, ap}
use Rattle.std.proofs.lemmas.Result.{err_from_is_err_and}
use Rattle.rv_elf.specs.Loaded.{entries_of}
use Rattle.rv_elf.specs.internal.Steps.{room_with}
use Rattle.rv_elf.proofs.Entries.{entry_passed, entry_failed, entries_done}
use Rattle.rv_elf.proofs.symbols.entries_test.Goals as goal

pub returns-in_err-room : goal.returns-in_err-room
unfolding entries_of
returns-in_err-room c =
    let p = err_from_is_err_and c.from_residual.result c.from_residual.ensures.1 in
    let failed = ap (room_with c.loop.room c.args.names.now) (sym c.read-entry.ensures) ∙ sym c.in_err-room.ensures in
    rw (p.1, p.2) (entry_failed c.loop.room c.args.names.now (length c.args.symbols.now / 16) c.loop.counter c.loop.rest.now _ _ c.loop-test.true failed c.loop.invariant.tested)

pub loop-preserved : goal.loop-preserved
loop-preserved c =
    let passed = ap (room_with c.loop.room c.args.names.now) (sym c.read-entry.ensures) ∙ sym c.in_ok-room.ensures in
    record {
      tested = entry_passed c.loop.room c.in_ok-room.room c.args.names.now (length c.args.symbols.now / 16) c.loop.counter c.loop.rest.now c.split_at.result.1.now _ c.loop-test.true passed c.split_at.ensures.back c.loop.invariant.tested;
      size = omega (arith, c.split_at.ensures.back_len);
    }

pub returns : goal.returns
unfolding entries_of
returns c = entries_done c.loop.room c.args.names.now (length c.args.symbols.now / 16) c.loop.counter c.loop.rest.now _ c.loop-test.false c.loop.invariant.tested
