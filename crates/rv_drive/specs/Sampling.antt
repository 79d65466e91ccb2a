-- What a driver draws by its words and sites, and the core that it begins with.
use Rattle.std.specs.Prelude.{ℕ, List, [], ◌++◌}
use Rattle.std.specs.Option.{option_to_list}
use Rattle.rv_collide.specs.Plan.{Numbers}
use Rattle.rv_collide.specs.Stored.{Stored, setting_of, stored}
use Rattle.rv_drive.specs.Draws.{Sampling, draw, draws, first_draws}
use Rattle.rv_elf.specs.Contents.{Contents}
use Rattle.rv_sample.specs.Generator.{word_at}
use Rattle.rv_sample.specs.Sites.{picked, sites}

-- the words of the generator of a seed and a stream, each of which picks one of the sites
abbrev pub sampling_of : List ℕ → ℕ → ℕ → Sampling
sampling_of sites seed stream = record { word_at = word_at seed stream; site_of = picked sites }

-- what the core draws: the words of its seed in stream 0, which pick among all sites of its image
abbrev pub sampling : Contents → ℕ → Sampling
sampling image seed = sampling_of (sites image []) seed 0

-- the core after a draw of the word at an index
abbrev pub drew : Sampling → ℕ → Stored → Stored
drew sampling index core =
    record core { entries = core.entries ++ option_to_list (draw (setting_of core) sampling core.entries index) }

-- a core of which nothing has been done but the first draws
abbrev pub begun : Contents → Numbers → Sampling → Stored
begun image plan sampling = stored image plan (draws (setting_of (stored image plan [])) sampling first_draws)

-- the same, with what a core draws by its seed
abbrev pub opened : Contents → Numbers → ℕ → Stored
opened image plan seed = begun image plan (sampling image seed)
