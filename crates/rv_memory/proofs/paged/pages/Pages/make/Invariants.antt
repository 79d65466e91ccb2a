-- the pages so far have the bytes so far
use Rattle.std.proofs.Common.{◌≡◌, ◌*◌, All, take}
use Rattle.rv_memory.specs.Pages.{bytes_of}
use Rattle.rv_memory.specs.internal.Paged.{IsPage}
use Rattle.rv_memory.proofs.paged.pages.Pages.make.Given as goal

abbrev pub invariant-loop-place : goal.invariant-loop-place
invariant-loop-place l = record {
  whole : All IsPage l.pages.items;
  bytes : bytes_of l.pages.items ≡ take (4096 * l.place) l.bytes;
}
