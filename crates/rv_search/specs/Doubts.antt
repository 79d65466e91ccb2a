-- What the sums of a hunt's runs say that makes a clean answer doubtful.
use Rattle.std.specs.Prelude.{ℕ, ◌*◌, ◌==◌, ◌&&◌, Bool, nat_le, nat_lt, length}
use Rattle.rv_search.specs.Tally.{Tally, pauses}

-- no pause was made
abbrev pub made_no_pause : Tally → Bool
made_no_pause t = pauses t == 0

-- more than half of so many
abbrev pub is_most : ℕ → ℕ → Bool
is_most some all = nat_lt all (2 * some)

-- in most of the longest runs a trap stopped a hart
abbrev pub most_trapped : Tally → Bool
most_trapped t = is_most t.longest.trapped t.longest.runs

-- in most of the longest runs a trap stopped each hart, before one was paused
abbrev pub most_lost : Tally → Bool
most_lost t = is_most t.longest.lost t.longest.runs

-- pauses were made, and within none of them another hart made a step
abbrev pub passed_no_step : Tally → Bool
passed_no_step t = nat_le 1 (pauses t) && t.counts.passed == 0

-- fewer than half of the image's sites were ever armed: said where all runs are sampled ones
abbrev pub armed_few : ℕ → Tally → Bool
armed_few sites t = nat_lt (2 * length t.armed) sites

-- most walks of the most harts made all steps that a walk may make, and saw no near pair
abbrev pub walked_in_vain : Tally → Bool
walked_in_vain t = is_most t.widest.spent t.widest.walks

-- in most of the runs whose plan has the most steps no hart exited
abbrev pub exited_nowhere : Tally → Bool
exited_nowhere t = is_most t.longest.exitless t.longest.runs
