-- the blocks of the races so far
use Rattle.std.proofs.Common.{◌≡◌, map, take}
use Rattle.rv_debug.specs.Placed.{moved}
use Rattle.rv_explain.specs.BlockOf.{race_shown}
use Rattle.rv_explain.specs.Blocks.{shown_of}
use Rattle.rv_races.specs.Races.{run_of}
use Rattle.rv_explain.proofs.explain.all_blocks.Given as goal

abbrev pub invariant-loop-place : goal.invariant-loop-place
invariant-loop-place l = record {
  same : l.session ≡ moved l.fn.session l.session.place;
  blocks : map shown_of l.blocks.items ≡ map (race_shown (run_of l.fn.session) l.fn.around) (take l.place l.races);
}
