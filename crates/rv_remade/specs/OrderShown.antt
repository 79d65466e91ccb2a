-- The trials that are shown of the orders of races, each of the run that it names, made again.
use Rattle.std.specs.Prelude.{◌≡◌, ℕ, All, Contains, IfSome, Option, Some, List, map}
use Rattle.rv_collide.specs.declared.collider.Finished.{Finished}
use Rattle.rv_explain.specs.BlockOf.{race_shown}
use Rattle.rv_explain.specs.Blocks.{shown_of}
use Rattle.rv_explain.specs.Order.{IsOrder}
use Rattle.rv_explain.specs.Races.{Run, reports}
use Rattle.rv_explain.specs.declared.order.TrialNumbers.{TrialNumbers}
use Rattle.rv_search.specs.Hunt.{Hunt}
use Rattle.rv_tables.specs.Keyed.{row_at}
use Rattle.rv_tables.specs.Orders.{first_of}
use Rattle.rv_remade.specs.Shown.{IsRunOf, run_told}
use Rattle.rv_shown.specs.declared.shown.MadeTrial.{MadeTrial}
use Rattle.rv_shown.specs.declared.shown.ShownOrder.{ShownOrder}
use Rattle.rv_tables.specs.declared.orders.OrderRow.{OrderRow}
use Rattle.rv_tables.specs.declared.orders.TrialPlace.{TrialPlace}
use Rattle.rv_races.specs.declared.races.Race.{Race}
use Rattle.rv_report.specs.Races.{same_key}
use Rattle.rv_report.specs.declared.key.Key.{Key}

-- that number alone
abbrev pub one_trial : ℕ → TrialNumbers
one_trial number = record { first = number; count = 1 }

-- A report of the race in a run is told, and the trial of that number was made from the state before its second access.
pub record IsTrialIn (run : Run) (ranges : List (ℕ × ℕ)) (key : Key) (number : ℕ) (made : MadeTrial) : Type 0 where
  pub race : Race
  pub is_report : Contains (reports run ranges) race.told
  pub key_is : race.told.key ≡ key
  pub block_is : shown_of made.block ≡ race_shown run 0 race
  pub order_is : IsOrder run.start run.entries made.block.second (one_trial number) made.block.other.hart made.block.paused.hart made.order

-- the same in the run that the trial names
pub record IsTrialShown (hunt : Hunt) (key : Key) (at : TrialPlace) (made : MadeTrial) : Type 0 where
  pub run : Finished
  pub is_run : IsRunOf hunt at.run run
  pub is_trial : IsTrialIn (run_told hunt.source.image run) hunt.ranges key at.number made

-- What is known of the race's order is shown, and if a trial is, it is the first by which some hart ended otherwise.
pub record IsOrderShown (hunt : Hunt) (tried : List (Key × OrderRow)) (one : ShownOrder) : Type 0 where
  pub row_is : one.row ≡ row_at same_key tried one.key
  pub made : IfSome one.made (λ made. (at : TrialPlace) × (first_of one.row ≡ Some at) × IsTrialShown hunt one.key at made)

-- the same of each of these races, in their order
pub record AreOrdersShown (hunt : Hunt) (tried : List (Key × OrderRow)) (keys : List Key) (shown : List ShownOrder) : Type 0 where
  pub keys_are : map (λ (one : ShownOrder). one.key) shown ≡ keys
  pub each : All (IsOrderShown hunt tried) shown
