use Rattle.std.proofs.Common.{◌≡◌, length, ap, sym, ◌∙◌, subst, arith}
use Rattle.std.proofs.lemmas.List.Elements.{All-more}
use Rattle.std.proofs.lemmas.List.Sums.{sum_by_more}
use Rattle.rv_elf.specs.Contents.{IsSymbol, need_of}
use Rattle.rv_elf.proofs.Facts.{room_left}
use Rattle.rv_elf.proofs.image.are_symbols.Goals as goal

pub loop-symbol-preserved : goal.loop-symbol-preserved
loop-symbol-preserved c =
    let left = room_left c.loop-symbol.room c.in-Ok.left c.as_bytes.result.now (sym c.in-Ok.is ∙ c.room_after.ensures) in
    let name : length c.as_bytes.result.now ≡ length c.symbol-item.result.name = ap length (c.as_bytes.ensures.value ∙ ap (λ s. s.name) c.symbol.view_is) in
    let more = sum_by_more need_of c.args.symbols.now c.loop-symbol.symbol-index c.symbol-item.result c.loop-symbol-test.true in
    record {
      each = All-more IsSymbol c.args.symbols.now c.loop-symbol.symbol-index c.symbol-item.result c.loop-symbol-test.true c.loop-symbol.invariant.each (subst IsSymbol c.symbol-item.is (c.is_symbol.ensures.0 c.if-not-is_symbol.false));
      room = omega (arith, left, name, more, ap need_of c.symbol-item.is, c.loop-symbol.invariant.room);
    }
