-- no region so far touches a block that tells to look after it
use Rattle.std.proofs.Common.{◌≡◌, ℕ, ◌<◌, false, length, slice_index}
use Rattle.std.specs.Prelude.{slice_index_or}
use Rattle.rv_memory.specs.Extent.{Extent}
use Rattle.rv_memory.specs.internal.Index.{touches}
use Rattle.rv_memory.specs.declared.index.TheConstants.{BLOCKS}
use Rattle.rv_memory.proofs.index.index_of.Given as goal

abbrev pub invariant-loop-place : goal.invariant-loop-place
invariant-loop-place l = record {
  count : length l.firsts.items ≡ BLOCKS;
  skips : (block place : ℕ) (e : Extent) → block < BLOCKS → place < slice_index l.firsts.items block → place < l.place → touches block (slice_index_or l.regions place e) ≡ false;
}
