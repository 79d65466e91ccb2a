-- The words that a driver draws.
use Rattle.std.specs.Prelude.{ℕ}
use Rattle.rand_pcg.specs.Lcg.{Lcg, advance, increment_of, started}
use Rattle.rand_pcg.specs.Pcg.{multiplier_64, pcg32}

-- the generator of a seed and a stream, before its first word (O'Neill, PCG XSH RR 64/32)
unfoldable pub seeded : ℕ → ℕ → Lcg
seeded seed stream = started 64 multiplier_64 seed (increment_of 64 stream)

-- its word at an index, counted from 0
unfoldable pub word_at : ℕ → ℕ → ℕ → ℕ
word_at seed stream index = (pcg32 (advance 64 multiplier_64 index (seeded seed stream))).0

-- A generator of words: its seed, its stream, and how many words it gave.
pub record Given : Type 0 where
  pub seed : ℕ
  pub stream : ℕ
  pub taken : ℕ
