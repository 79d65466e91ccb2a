-- How far the walk of a run goes, and how many turns a burst of it has: by the run's number, through all scales.
use Rattle.std.specs.Prelude.{ℕ, ◌+◌, ◌*◌, ◌/◌, ◌%◌, ◌^◌, ◌==◌, min, if◌then◌else◌, map, count_by}
use Rattle.std.specs.List.{range_with_len}
use Rattle.rv_walk.specs.declared.course.TheConstants.{FEW_TURNS, MANY_TURNS}

-- runs go in fours, counted from 1
abbrev pub four_of : ℕ → ℕ
four_of run = run / 4 + 1

-- how many times 2 divides a number, at most 10 times
abbrev pub twos : ℕ → ℕ
twos n = count_by (λ power. n % power == 0) (map (λ k. 2 ^ k) (range_with_len 1 10))

-- Of numbers counted from 1 on: each length is twice as long as the one before it, and half as frequent, so that each gets about
-- the same share of the steps; none is over a million.
abbrev pub steps_at : ℕ → ℕ
steps_at n = min (1000 * 2 ^ twos n) 1_000_000

-- Of each length, every second four of runs has long bursts.
abbrev pub burst_of : ℕ → ℕ
burst_of run =
    let four = four_of run in
    if four / 2 ^ (twos four + 1) % 2 == 0 then FEW_TURNS else MANY_TURNS
