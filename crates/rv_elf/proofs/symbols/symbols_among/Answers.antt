use Rattle.std.proofs.Common.{◌/◌, length, arith, ◌∙◌, ap}
use Rattle.rv_elf.specs.Loaded.{entries_of, kept}
use Rattle.rv_elf.proofs.Entries.{symbol_found, symbols_done}
use Rattle.rv_elf.proofs.symbols.symbols_among.Goals as goal

pub loop-preserved : goal.loop-preserved
loop-preserved c =
    let is = c.in_ok-symbol_of.ensures.value ∙ ap (kept c.args.names.now) c.read-entry.ensures in
    let pushed = c.in_ok-push_some.ensures {u = tt} in
    record {
      found = rw pushed.pushed (symbol_found c.args.names.now (length c.args.symbols.now / 16) c.loop.counter c.loop.rest.now c.split_at.result.1.now c.loop.found.items _ _ c.loop-test.true is c.split_at.ensures.back c.loop.invariant.found);
      sound = pushed.sound c.in_ok-symbol_of.ensures.sound c.loop.invariant.sound;
      size = omega (arith, c.split_at.ensures.back_len);
    }

pub returns-clause-those : goal.returns-clause-those
unfolding entries_of
returns-clause-those c = symbols_done c.args.names.now (length c.args.symbols.now / 16) c.loop.counter c.loop.rest.now c.loop.found.items _ c.loop-test.false c.loop.invariant.found
