-- Numbers of runs, added up. They stay at the largest number of 64 bits once there.
use Rattle.std.specs.Prelude.{ℕ, ◌+◌}
use Rattle.rv_collide.specs.Counts.{saturated}
use Rattle.rv_search.specs.declared.tally.counts.Counts.{Counts}

abbrev pub sum : Counts → Counts → Counts
sum a b = record {
  steps = saturated (a.steps + b.steps);
  quiet = saturated (a.quiet + b.quiet);
  hit = saturated (a.hit + b.hit);
  changed = saturated (a.changed + b.changed);
  unwatched = saturated (a.unwatched + b.unwatched);
  passed = saturated (a.passed + b.passed);
}

abbrev pub no_counts : Counts
no_counts = record { steps = 0; quiet = 0; hit = 0; changed = 0; unwatched = 0; passed = 0 }

-- how many pauses were made
abbrev pub pauses_in : Counts → ℕ
pauses_in counts = counts.quiet + counts.hit + counts.changed
