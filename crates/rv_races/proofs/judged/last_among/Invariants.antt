-- the last store among the places so far
use Rattle.std.proofs.Common.{◌≡◌, ◌+◌, ◌-◌, None}
use Rattle.std.specs.Prelude.{filter_map}
use Rattle.std.specs.List.{fold, range_with_len}
use Rattle.rv_races.specs.Judged.{store_or}
use Rattle.rv_races.specs.internal.LastStores.{made_at}
use Rattle.rv_races.proofs.judged.last_among.Given as goal

abbrev pub invariant-loop-place : goal.invariant-loop-place
invariant-loop-place l =
    l.last ≡ fold (store_or l.told.access) None (filter_map (made_at l.made) (range_with_len (l.told.paused_at + 1) (l.place - (l.told.paused_at + 1))))
