-- How a campaign's runs are split among its workers.
use Rattle.std.specs.Prelude.{◌≡◌, ℕ, ◌+◌, ◌*◌, ◌/◌, ◌%◌, min, List, length, slice_get, Some, None}
use Rattle.rv_campaign.specs.Campaign.{IsToldBy, number_fault}
use Rattle.rv_campaign.specs.Kept.{IsKept, Source}
use Rattle.rv_campaign.specs.declared.runs.CampaignFault.{CampaignFault}
use Rattle.rv_collide.specs.Plan.{Numbers}
use Rattle.rv_collide.specs.Stored.{Stored}

-- Where a worker's runs begin among so many. The pieces are consecutive and of one length; the first of them are
-- longer by one, as many as the division leaves.
abbrev pub first_of : (runs workers worker : ℕ) → ℕ
first_of runs workers worker = worker * (runs / workers) + min worker (runs % workers)

-- a worker's fault is none of the campaign's numbers
abbrev pub IsMet : {S : Type 0} → (ℕ → S → Type 0) → CampaignFault S → Type 0
IsMet shuts fault = (number_fault fault ≡ None) × IsToldBy shuts fault

-- in order, what is kept of the runs from one number to the one before another
pub record AreKeptBetween {K : Type 0} (keeps : Stored → K → Type 0) (source : Source) (plan : Numbers) (first end : ℕ) (kept : List K) : Type 0 where
  pub count : first + length kept ≡ end
  pub each : (place : ℕ) (one : K) → slice_get kept place ≡ Some one → IsKept keeps source plan (first + place) one
