use Rattle.std.proofs.Common.{◌++◌}
use Rattle.std.proofs.lemmas.List.Elements.{All-append}
use Rattle.rv_memory.specs.Extent.{IsExtent}
use Rattle.rv_memory.proofs.Sound.{sound_made}
use Rattle.rv_memory.proofs.flat.keep.Goals as goal

pub invariant_of-result : goal.invariant_of-result
invariant_of-result c =
    let all = c.args.first.now ++ c.args.second.now in (
      record {
        sound = rw c.in_ok-regions.ensures (sound_made all (All-append IsExtent c.args.first.now c.args.second.now c.requires.first c.requires.second) c.requires.passed);
        index = rw c.deref.ensures.value at c.in_ok-firsts.ensures;
      },
      rw c.deref-2.ensures.value at c.code_of-code.ensures,
    )
