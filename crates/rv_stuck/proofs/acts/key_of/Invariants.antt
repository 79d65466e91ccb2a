use Rattle.std.proofs.Common.{◌≡◌, map, take}
use Rattle.rv_stuck.specs.Acts.{conduct_in}
use Rattle.rv_stuck.specs.Key.{key}
use Rattle.rv_stuck.proofs.acts.key_of.Given as goal

abbrev pub invariant-loop-h : goal.invariant-loop-h
invariant-loop-h l = l.words.items ≡ key (map conduct_in (take l.h l.acts))
