-- What each hart of a stuck end does, as two stuck ends are compared: whether it polls, at which address, and what it reads.
use Rattle.std.specs.Prelude.{ℕ, Bool, ◌||◌, ◌&&◌, ◌==◌, nat_lt, min, if◌then◌else◌, Option, Some, None, List, [], ◌∷◌}
use Rattle.std.specs.List.{fold, list_any}
use Rattle.rv_hart.specs.declared.access.Access.{Access}
use Rattle.rv_waits.specs.Touches.{is_read}
use Rattle.rv_waits.specs.declared.touched.Range.{Range}
use Rattle.rv_stuck.specs.declared.acts.Act.{Act}
use Rattle.rv_stuck.specs.declared.acts.Act.TheVariants as act
use Rattle.rv_stuck.specs.declared.stuck.Doing.{Doing}
use Rattle.rv_stuck.specs.declared.stuck.Doing.TheVariants.{Exited, Stopped, Waits}
use Rattle.rv_stuck.specs.declared.stuck.RoundStep.{RoundStep}

-- one of the steps loads data: the hart polls, else it is parked
abbrev pub polls : List RoundStep → Bool
polls steps = list_any (λ (step : RoundStep). is_read step.access) steps

-- the least address of an instruction of the steps
abbrev pub least_pc : List RoundStep → ℕ
least_pc steps = fold (λ least (step : RoundStep). min least step.pc) 0xffff_ffff steps

-- ---- what is read

-- the bytes that an access reads, if it reads
abbrev pub read_by : Option Access → Option Range
read_by None = None
read_by (Some access) = if access.read then Some (record { first = access.first; size = access.size }) else None

-- by the first address, and then by the size
abbrev pub is_before : Range → Range → Bool
is_before one other = nat_lt one.first other.first || (one.first == other.first && nat_lt one.size other.size)

-- ascending ranges with one more, if it is not among them
abbrev pub with_range : Range → List Range → List Range
with_range range [] = range ∷ []
with_range range (first ∷ rest) =
    if is_before first range then first ∷ with_range range rest else (if is_before range first then range ∷ first ∷ rest else first ∷ rest)

abbrev pub with_read : Option Range → List Range → List Range
with_read None ranges = ranges
with_read (Some range) ranges = with_range range ranges

abbrev pub with_step : List Range → RoundStep → List Range
with_step ranges step = with_read (read_by step.access) ranges

-- what the steps read: each range once, in ascending order
abbrev pub reads : List RoundStep → List Range
reads steps = fold with_step [] steps

-- ---- what a hart does

-- a hart has exited or stopped; it goes round and reads no data; or it polls, from this least address of its round, these ranges
pub data Conduct : Type 0 where
  HasExited : Conduct
  HasStopped : Conduct
  IsParked : Conduct
  PollsAt : ℕ → List Range → Conduct

-- what a hart does that goes round these steps
abbrev pub conduct_of_round : List RoundStep → Conduct
conduct_of_round steps = if polls steps then PollsAt (least_pc steps) (reads steps) else IsParked

-- what a hart does of a stuck end
abbrev pub conduct_of : Doing → Conduct
conduct_of Exited = HasExited
conduct_of Stopped = HasStopped
conduct_of (Waits steps) = conduct_of_round steps.items

-- what an act says
abbrev pub conduct_in : Act → Conduct
conduct_in act.Exited = HasExited
conduct_in act.Stopped = HasStopped
conduct_in act.Parked = IsParked
conduct_in (act.Polls polled) = PollsAt polled.pc polled.reads.items
