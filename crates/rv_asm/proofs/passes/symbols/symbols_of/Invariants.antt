-- the symbols of the labels so far, the last first
use Rattle.std.proofs.Common.{◌≡◌, ◌≤◌, length, drop, reverse, All}
use Rattle.rv_elf.specs.Contents.{IsSymbol}
use Rattle.rv_asm.specs.Assembled.{symbols_of}
use Rattle.rv_asm.specs.internal.Walks.{AreWalks}
use Rattle.rv_asm.proofs.passes.symbols.symbols_of.Given as goal

abbrev pub invariant-loop-left : goal.invariant-loop-left
invariant-loop-left l = record {
  walks : AreWalks (record { text = l.text_end; datas = l.data_end }) (drop l.left l.labels) l.walks;
  symbols : l.symbols.items ≡ reverse (symbols_of (record { text = l.text_end; datas = l.data_end }) (drop l.left l.labels));
  sound : All IsSymbol l.symbols.items;
  within : l.left ≤ length l.labels;
}

abbrev pub decreases-loop-left : goal.decreases-loop-left
decreases-loop-left l = l.left
