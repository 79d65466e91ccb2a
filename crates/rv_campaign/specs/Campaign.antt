-- A campaign: its runs, what is kept of them, and what it refuses.
use Rattle.std.specs.Prelude.{◌≡◌, ⊤, ℕ, ◌*◌, ◌&&◌, nat_le, Option, Some, None, if◌then◌else◌, not, List, length, slice_get}
use Rattle.rv_campaign.specs.Kept.{IsKept, Source}
use Rattle.rv_campaign.specs.Run.{Hunt, IsRun}
use Rattle.rv_campaign.specs.declared.runs.CampaignFault.{CampaignFault}
use Rattle.rv_campaign.specs.declared.runs.CampaignFault.TheVariants as campaign
use Rattle.rv_campaign.specs.declared.runs.NumberFault.{NumberFault}
use Rattle.rv_campaign.specs.declared.runs.NumberFault.TheVariants.{Runs, Workers, TooLarge}
use Rattle.rv_campaign.specs.declared.runs.TheConstants.{MOST_ENTRIES, MOST_RUNS, MOST_WORKERS}
use Rattle.rv_collide.specs.Plan.{Numbers, most_entries}
use Rattle.rv_collide.specs.Stored.{Stored}
use Rattle.rv_collide.specs.declared.collider.Finished.{Finished}
use Rattle.rv_sample.specs.Sites.{sites}

-- the first test that the numbers of a campaign fail
abbrev pub fault_of : Numbers → ℕ → ℕ → Option NumberFault
fault_of plan runs workers =
    if not (nat_le 1 runs && nat_le runs MOST_RUNS) then Some Runs
    else (if not (nat_le 1 workers && nat_le workers MOST_WORKERS) then Some Workers
    else (if not (nat_le (runs * most_entries plan) MOST_ENTRIES) then Some TooLarge else None))

-- the test that a fault tells of, if it tells of the numbers
abbrev pub number_fault : {S : Type 0} → CampaignFault S → Option NumberFault
number_fault campaign.TooLarge = Some TooLarge
number_fault campaign.Runs = Some Runs
number_fault campaign.Workers = Some Workers
number_fault campaign.NoMemory = None
number_fault campaign.NoThread = None
number_fault (campaign.GateClosed worker shut) = None

-- a closed gate is told with a value that it refuses the worker with
abbrev pub IsToldBy : {S : Type 0} → (ℕ → S → Type 0) → CampaignFault S → Type 0
IsToldBy shuts (campaign.GateClosed worker shut) = shuts worker shut
IsToldBy shuts campaign.NoMemory = ⊤
IsToldBy shuts campaign.TooLarge = ⊤
IsToldBy shuts campaign.Runs = ⊤
IsToldBy shuts campaign.Workers = ⊤
IsToldBy shuts campaign.NoThread = ⊤

-- for each run's number, in order, its one run
pub record AreRuns (hunt : Hunt) (runs : ℕ) (told : List Finished) : Type 0 where
  pub count : length told ≡ runs
  pub each : (run : ℕ) (one : Finished) → slice_get told run ≡ Some one → IsRun hunt run one

-- what the runs of a hunt are made of: its image, the sites that it leaves, and its seed
abbrev pub source_of : Hunt → Source
source_of hunt = record { image = hunt.image; sites = sites hunt.image hunt.excluded; seed = hunt.seed }

-- for each run's number, in order, what is kept of its one run
pub record AreKeptOf {K : Type 0} (keeps : Stored → K → Type 0) (hunt : Hunt) (runs : ℕ) (kept : List K) : Type 0 where
  pub count : length kept ≡ runs
  pub each : (run : ℕ) (one : K) → slice_get kept run ≡ Some one → IsKept keeps (source_of hunt) hunt.plan run one
