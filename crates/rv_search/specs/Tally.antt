-- What the runs of a hunt saw, added up run by run.
use Rattle.std.specs.Prelude.{ℕ, ◌+◌, ◌*◌, ◌==◌, ◌&&◌, Bool, true, false, nat_le, nat_lt, cond, if◌then◌else◌, Option, Some, None, is_some, List, [], count_by, length}
use Rattle.std.specs.BTreeSet.{insert_key}
use Rattle.std.specs.List.{fold}
use Rattle.std.specs.Ordering.{nat_cmp}
use Rattle.rv_collide.specs.Counts.{saturated}
pub use Rattle.rv_search.specs.Sums.{no_counts, pauses_in, sum}
use Rattle.rv_search.specs.Kinds.{Kinds, no_kinds, one_more}
use Rattle.rv_search.specs.declared.summary.Summary.{Summary}
use Rattle.rv_search.specs.declared.tally.Longest.{Longest}
use Rattle.rv_search.specs.declared.tally.RunEnd.{RunEnd}
use Rattle.rv_search.specs.declared.tally.Widest.{Widest}
use Rattle.rv_search.specs.declared.tally.counts.Counts.{Counts}
use Rattle.rv_search.specs.Ways.{way}
use Rattle.rv_search.specs.declared.end.End.{End}
use Rattle.rv_search.specs.declared.end.Way.{Way}
use Rattle.rv_search.specs.declared.end.Way.TheVariants.{Exit, Trap, Wait, Spent}
use Rattle.rv_plans.specs.declared.limit.Reached.{Reached}

-- ---- how harts ended

-- exits by code, traps by cause and address, those that waited for ever, and those that had no steps left
pub record Ended : Type 0 where
  pub exits : Kinds
  pub stops : Kinds
  pub waits : Kinds
  pub out_of_steps : ℕ

-- one more, in the way in which it ended
abbrev pub ended_by : Way → Ended → End → Ended
ended_by Exit ended end = record ended { exits = one_more ended.exits end }
ended_by Trap ended end = record ended { stops = one_more ended.stops end }
ended_by Wait ended end = record ended { waits = one_more ended.waits end }
ended_by Spent ended end = record ended { out_of_steps = saturated (ended.out_of_steps + 1) }

abbrev pub ended_with : Ended → End → Ended
ended_with ended end = ended_by (way end) ended end

unfoldable pub all_ended : Ended → List End → Ended
all_ended ended ends = fold ended_with ended ends

abbrev pub is_exit : Way → Bool
is_exit Exit = true
is_exit Trap = false
is_exit Wait = false
is_exit Spent = false

abbrev pub is_trap : Way → Bool
is_trap Exit = false
is_trap Trap = true
is_trap Wait = false
is_trap Spent = false

-- how many harts exited, and how many a trap stopped
abbrev pub exits : List End → ℕ
exits ends = saturated (count_by (λ end. is_exit (way end)) ends)

abbrev pub traps : List End → ℕ
traps ends = saturated (count_by (λ end. is_trap (way end)) ends)

-- ---- the sums

-- addresses in ascending order, each once, and those of a list
unfoldable pub with_addresses : List ℕ → List ℕ → List ℕ
with_addresses addresses more = fold (insert_key nat_cmp) addresses more

-- one where it holds
abbrev pub one_if : Bool → ℕ
one_if holds = cond holds 1 0

-- How a run came to its end, of whose harts so many exited and so many were stopped by a trap, with so many pauses: a trap stopped a
-- hart; a trap stopped each, and none was paused before; none exited.
abbrev pub run_end : ℕ → ℕ → ℕ → ℕ → RunEnd
run_end exited trapped harts paused = record {
  is_trapped = nat_le 1 trapped;
  is_lost = trapped == harts && paused == 0;
  is_exitless = exited == 0;
}

-- Of the runs whose plans have the most steps: how many that is, how many runs there were, and how many of them came to such ends. A
-- run of so many steps is one of them, or the first of longer ones.
abbrev pub longest_with : Longest → ℕ → RunEnd → Longest
longest_with longest steps end =
    if nat_lt longest.steps steps then record { steps = steps; runs = 1; trapped = one_if end.is_trapped; lost = one_if end.is_lost; exitless = one_if end.is_exitless }
    else (if longest.steps == steps then record {
      steps = longest.steps;
      runs = saturated (longest.runs + 1);
      trapped = saturated (longest.trapped + one_if end.is_trapped);
      lost = saturated (longest.lost + one_if end.is_lost);
      exitless = saturated (longest.exitless + one_if end.is_exitless);
    } else longest)

-- Of the walks with the most harts: how many these are, how many walks there were, and how many of them made all steps that a walk
-- may make and saw no near pair. A walk of so many harts is one of them, or the first of more.
abbrev pub widest_with : Widest → ℕ → ℕ → Widest
widest_with widest harts spent =
    if nat_lt widest.harts harts then record { harts = harts; walks = 1; spent = spent }
    else (if widest.harts == harts then record { harts = widest.harts; walks = saturated (widest.walks + 1); spent = saturated (widest.spent + spent) } else widest)

-- the same after a run that may be a walk: whether it was spent
abbrev pub widest_after : Widest → ℕ → Option Bool → Widest
widest_after widest harts None = widest
widest_after widest harts (Some spent) = widest_with widest harts (one_if spent)

-- ---- all of it

pub record Tally : Type 0 where
  pub runs : ℕ
  pub walks : ℕ
  pub probes : ℕ
  pub ended : Ended
  pub armed : List ℕ
  pub paused : List ℕ
  pub counts : Counts
  -- those of the sampled runs alone
  pub sampled : Counts
  -- in how many runs each hart was stopped by a trap
  pub each_stopped : ℕ
  pub longest : Longest
  pub widest : Widest
  -- how many steps the copies of their trials made
  pub tried : ℕ

abbrev pub nothing : Tally
nothing = record {
  runs = 0;
  walks = 0;
  probes = 0;
  ended = record { exits = no_kinds; stops = no_kinds; waits = no_kinds; out_of_steps = 0 };
  armed = [];
  paused = [];
  counts = no_counts;
  sampled = no_counts;
  each_stopped = 0;
  longest = record { steps = 0; runs = 0; trapped = 0; lost = 0; exitless = 0 };
  widest = record { harts = 0; walks = 0; spent = 0 };
  tried = 0;
}

-- one more run
unfoldable pub added : Tally → Summary → Tally
added t s = record {
  runs = saturated (t.runs + 1);
  walks = saturated (t.walks + one_if (is_some s.walk));
  probes = saturated (t.probes + s.probes);
  ended = all_ended t.ended s.ends.items;
  armed = with_addresses t.armed s.armed.items;
  paused = with_addresses t.paused s.paused.items;
  counts = sum t.counts s.counts;
  sampled = sum t.sampled s.sampled;
  each_stopped = saturated (t.each_stopped + one_if (traps s.ends.items == length s.ends.items));
  longest = longest_with t.longest s.most_steps (run_end (exits s.ends.items) (traps s.ends.items) (length s.ends.items) (saturated (pauses_in s.counts)));
  widest = widest_after t.widest (length s.ends.items) s.walk;
  tried = saturated (t.tried + s.tried);
}

-- what runs saw, in their order
unfoldable pub tally_of : List Summary → Tally
tally_of summaries = fold added nothing summaries

-- how many pauses were made; in a run that is over each has ended
abbrev pub pauses : Tally → ℕ
pauses t = pauses_in t.counts

-- ---- how far the hunt has come

-- What the runs so far have cost: the steps that their harts made, 300 more for each run, 20 for each probe, and the steps of the
-- copies that were made of them to try orders.
abbrev pub cost : Tally → ℕ
cost t = saturated (saturated (saturated (t.counts.steps + 300 * t.runs) + 20 * t.probes) + t.tried)

-- The image is built for another machine: in each of the first 48 runs every hart was stopped by a trap, and no pause
-- was made.
abbrev pub is_hopeless : Tally → Bool
is_hopeless t = t.runs == 48 && t.each_stopped == 48 && pauses t == 0

abbrev pub reached : Tally → Reached
reached t = record { runs = t.runs; cost = cost t; is_hopeless = is_hopeless t }
