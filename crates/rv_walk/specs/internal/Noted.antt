-- How near pairs are kept by their addresses.
use Rattle.std.specs.Prelude.{◌≡◌, List}
use Rattle.std.specs.List.{All}
use Rattle.rv_walk.specs.Told.{addresses_of}
use Rattle.rv_walk.specs.declared.near_pair.Addresses.{Addresses}
use Rattle.rv_walk.specs.declared.near_pair.NearPair.{NearPair}

-- each stands at its addresses
abbrev pub AreByAddresses : List (Addresses × NearPair) → Type 0
AreByAddresses entries = All (λ (entry : Addresses × NearPair). entry.0 ≡ addresses_of entry.1) entries
