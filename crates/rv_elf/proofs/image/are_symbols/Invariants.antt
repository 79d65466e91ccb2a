-- those so far, and the room that they take
use Rattle.std.proofs.Common.{◌≡◌, ◌+◌, All, take}
use Rattle.std.specs.List.{sum_by}
use Rattle.rv_elf.specs.Contents.{IsSymbol, need_of}
use Rattle.rv_elf.proofs.image.are_symbols.Given as goal

abbrev pub invariant-loop-symbol : goal.invariant-loop-symbol
invariant-loop-symbol l = record {
  each : All IsSymbol (take l.symbol-index l.symbols);
  room : l.room + sum_by need_of (take l.symbol-index l.symbols) ≡ 67_108_864;
}
