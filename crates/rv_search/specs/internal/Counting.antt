-- The numbers of a run, pause by pause.
use Rattle.std.specs.Prelude.{◌+◌, List}
use Rattle.rv_collide.specs.Counts.{saturated}
use Rattle.rv_collide.specs.declared.ending.Ending.{Ending}
use Rattle.rv_collide.specs.declared.entry.Entry.{Entry}
use Rattle.rv_search.specs.Summary.{has_step_within, is_changed, is_hit, is_quiet, is_unwatched}
use Rattle.rv_search.specs.Tally.{one_if}
use Rattle.rv_search.specs.declared.tally.counts.Counts.{Counts}

-- one pause more
abbrev pub with_ending : List Entry → Counts → Ending → Counts
with_ending entries c e = record {
  steps = c.steps;
  quiet = saturated (c.quiet + one_if (is_quiet e.verdict));
  hit = saturated (c.hit + one_if (is_hit e.verdict));
  changed = saturated (c.changed + one_if (is_changed e.verdict));
  unwatched = saturated (c.unwatched + one_if (is_unwatched e.slot));
  passed = saturated (c.passed + one_if (has_step_within entries e));
}
