-- The filter beside the armed addresses: how many of them stand in each bucket.
use Rattle.std.specs.Prelude.{◌≡◌, ℕ, ◌/◌, ◌%◌, ◌<◌, ◌≤◌, ◌==◌, ⊤, Bool, false, if◌then◌else◌, ◌+◌, List, [], ◌∷◌, length, slice_index, Vec, vec_capacity}
use Rattle.std.specs.List.{list_any}
use Rattle.std.specs.declared.alloc.Global.{Global}
use Rattle.rv_break.specs.declared.armed.TheConstants.{BUCKETS}
use Rattle.rv_break.specs.declared.claim.TheConstants.{ARMED_LIMIT}

abbrev pub bucket_of : ℕ → ℕ
bucket_of address = address / 4 % BUCKETS

-- how many of the addresses stand in a bucket
abbrev pub count_of : (ℕ → Bool) → List ℕ → ℕ
count_of test [] = 0
count_of test (address ∷ addresses) = (if test address then 1 else 0) + count_of test addresses

abbrev pub count_in : List ℕ → ℕ → ℕ
count_in addresses bucket = count_of (λ address. bucket_of address == bucket) addresses

abbrev pub is_among : ℕ → List ℕ → Bool
is_among address addresses = list_any (λ other. other == address) addresses

-- no address stands twice
abbrev pub AreApart : List ℕ → Type 0
AreApart [] = ⊤
AreApart (address ∷ addresses) = (is_among address addresses ≡ false) × AreApart addresses

-- few addresses, each once, and for each bucket how many of them stand in it
pub record IsFiltered (addresses counts : List ℕ) : Type 0 where
  pub apart : AreApart addresses
  pub few : length addresses ≤ ARMED_LIMIT
  pub buckets : length counts ≡ BUCKETS
  pub counted : (bucket : ℕ) → bucket < BUCKETS → slice_index counts bucket ≡ count_in addresses bucket

pub record AreArmed (addresses counts : Vec ℕ Global) : Type 0 where
  pub filtered : IsFiltered addresses.items counts.items
  pub room : ARMED_LIMIT ≤ vec_capacity addresses
