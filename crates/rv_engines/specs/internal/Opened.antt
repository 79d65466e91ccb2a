-- What `explain` has before it tells.
use Rattle.std.specs.Prelude.{◌≡◌, ℕ, Ok, List}
use Rattle.rv_explain.specs.Races.{found, found_of, run_of}
use Rattle.rv_engines.specs.Asking.{Asking}
use Rattle.rv_engines.specs.Campaigns.{elements, listed}
use Rattle.rv_engines.specs.declared.explain.opening.Opened.{Opened}

-- these are the races of its run, where the bytes of the listed names are told as named
pub record AreFound (wanted : Asking) (opened : Opened) : Type 0 where
  pub ranges : List (ℕ × ℕ)
  pub listed_are : listed opened.image (elements wanted.named) ≡ Ok ranges
  pub found_are : found_of opened.found ≡ found (run_of opened.session) ranges
