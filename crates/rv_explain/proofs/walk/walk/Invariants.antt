-- the session is at the place, and of the places within the pause so far the last store and the meetings are known
use Rattle.std.proofs.Common.{◌≡◌, ◌+◌, ◌-◌, ◌<◌, None, map}
use Rattle.std.specs.Prelude.{IfSome, filter_map}
use Rattle.std.specs.List.{fold, range_with_len}
use Rattle.rv_collide.specs.First.{seen_at}
use Rattle.rv_debug.specs.Placed.{moved}
use Rattle.rv_explain.specs.BlockOf.{meets_at}
use Rattle.rv_races.specs.Judged.{store_or}
use Rattle.rv_races.specs.Races.{run_of}
use Rattle.rv_explain.proofs.walk.walk.Given as goal

abbrev pub invariant-loop-place : goal.invariant-loop-place
invariant-loop-place l = record {
  here : l.session ≡ moved l.fn.session l.place;
  last : l.walked.last ≡ fold (store_or l.told.access) None (filter_map (seen_at (run_of l.fn.session).start l.fn.session.entries) (range_with_len (l.told.paused_at + 1) (l.place - (l.told.paused_at + 1))));
  before : IfSome l.walked.last (λ seen. seen.place < l.place);
  meets : l.walked.meets.items ≡ map (meets_at (run_of l.fn.session) l.told) (range_with_len (l.told.paused_at + 1) (l.place - (l.told.paused_at + 1)));
}
