-- the headers so far
use Rattle.std.proofs.Common.{◌≡◌, ◌≤◌, length, take}
use Rattle.std.specs.List.{filter}
use Rattle.rv_elf.specs.Loaded.{is_loaded}
use Rattle.rv_elf.proofs.segments.loaded.Given as goal

abbrev pub invariant-loop-header : goal.invariant-loop-header
invariant-loop-header l = record {
  loaded : l.loaded ≡ filter is_loaded (take l.header-index l.headers);
  few : length l.loaded ≤ l.header-index;
}
