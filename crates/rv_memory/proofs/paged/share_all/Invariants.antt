-- the memory is as it was, and the copies so far have that of the tables so far
use Rattle.std.proofs.Common.{◌≡◌, take, map, vec_len}
use Rattle.rv_memory.specs.Pages.{extent}
use Rattle.rv_memory.proofs.paged.share_all.Given as goal

abbrev pub invariant-loop-found : goal.invariant-loop-found
invariant-loop-found l = record {
  end : l.found-end ≡ vec_len l.tables;
  same : map extent l.tables.items ≡ map extent l.fn.tables.items;
  equal : map extent l.copies.items ≡ take l.found (map extent l.fn.tables.items);
}
