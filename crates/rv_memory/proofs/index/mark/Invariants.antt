-- the blocks so far have the place or an earlier one, and no block a later one than before
use Rattle.std.proofs.Common.{◌≡◌, ℕ, ◌≤◌, ◌<◌, length, slice_index}
use Rattle.rv_memory.specs.declared.index.TheConstants.{BLOCKS}
use Rattle.rv_memory.proofs.index.mark.Given as goal

abbrev pub invariant-loop-block : goal.invariant-loop-block
invariant-loop-block l = record {
  count : length l.firsts ≡ BLOCKS;
  lower : (block : ℕ) → slice_index l.firsts block ≤ slice_index l.fn.firsts block;
  marked : (block : ℕ) → l.from ≤ block → block < l.block → slice_index l.firsts block ≤ l.place;
}
