-- the bytes are as they were, and the copies so far have those of the pages so far
use Rattle.std.proofs.Common.{◌≡◌, All, take, vec_len}
use Rattle.rv_memory.specs.Pages.{bytes_of}
use Rattle.rv_memory.specs.internal.Paged.{IsPage}
use Rattle.rv_memory.proofs.paged.pages.share_all.Given as goal

abbrev pub invariant-loop-place : goal.invariant-loop-place
invariant-loop-place l = record {
  end : l.place-end ≡ vec_len l.pages;
  whole : All IsPage l.pages.items;
  same : bytes_of l.pages.items ≡ bytes_of l.fn.pages.items;
  all_whole : All IsPage l.copies.items;
  equal : bytes_of l.copies.items ≡ bytes_of (take l.place l.pages.items);
}
