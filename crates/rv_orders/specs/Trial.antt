-- Two orders of two steps: what comes of either, and how that differs.
use Rattle.std.specs.Prelude.{◌≡◌, ◌≢◌, ℕ, Bool, true, false, ◌&&◌, ◌||◌, ◌==◌, not, nat_eq, ◌<◌, ◌≤◌, Option, Some, None, List, [], ◌∷◌, length, slice_get}
use Rattle.std.specs.List.{list_any, starts_with}
use Rattle.std.specs.Str.{bytes_eq}
use Rattle.rv_hart.specs.NextAccess.{next_access}
use Rattle.rv_hart.specs.Refusals.{is_running_hart}
use Rattle.rv_hart.specs.ReservationLaws.{writes_word}
use Rattle.rv_hart.specs.Run.{run}
use Rattle.rv_hart.specs.SomeHart.{SomeHart}
use Rattle.rv_hart.specs.State.{State, stacks}
use Rattle.rv_hart.specs.declared.access.Access.{Access}
use Rattle.rv_hart.specs.declared.hart.Hart.{Hart}
use Rattle.rv_hart.specs.declared.hart.Status.TheVariants as status
use Rattle.rv_memory.specs.Memory.{byte, covers}
use Rattle.rv_stuck.specs.Acts.{least_pc, polls}
use Rattle.rv_stuck.specs.StuckEnd.{IsRoundOf}
use Rattle.rv_stuck.specs.declared.stuck.RoundStep.{RoundStep}
use Rattle.rv_sample.specs.Generator.{word_at}
use Rattle.rv_waits.specs.Stuck.{Runs}
use Rattle.rv_waits.specs.Turn.{AllMayRest}
use Rattle.rv_orders.specs.Driven.{AreDriven}
use Rattle.rv_orders.specs.declared.difference.Difference.{Difference}
use Rattle.rv_orders.specs.declared.difference.Difference.TheVariants as difference
use Rattle.rv_orders.specs.declared.end.HartEnd.{HartEnd}
use Rattle.rv_orders.specs.declared.end.HartEnd.TheVariants.{Exited, Stopped, Polls, Parked, Running}
use Rattle.rv_orders.specs.declared.tried.Trial.{Trial}
use Rattle.rv_orders.specs.declared.tried.Tried.{Tried}

-- ---- what is tried

-- the access writes a byte of the instruction at the hart's pc
abbrev pub writes_at : Option Access → Option Hart → Bool
writes_at access None = false
writes_at access (Some hart) = writes_word access hart.pc

-- the next access of hart h writes a byte of the instruction that the other hart is at
abbrev pub writes_over : State → ℕ → ℕ → Bool
writes_over s h other = writes_at (next_access s h) (slice_get s.harts other)

abbrev pub runs : State → ℕ → Bool
runs s h = is_running_hart (slice_get s.harts h)

-- they are two harts, both run, and neither is about to write over the other's instruction: then each can step behind the other
abbrev pub may_try : State → ℕ → ℕ → Bool
may_try s one other = not (one == other) && (runs s one && runs s other) && not (writes_over s one other || writes_over s other one)

-- ---- what a hart came to

-- hart h runs, and goes round some steps for ever, which are so
pub record GoesRound (P : List RoundStep → Type 0) (s : State) (h : ℕ) : Type 0 where
  pub runs : Runs s h
  pub steps : List RoundStep
  pub round : IsRoundOf s h steps
  pub so : P steps

-- the steps load data, and this is the least address of an instruction of them
pub record PollsFrom (pc : ℕ) (steps : List RoundStep) : Type 0 where
  pub loads : polls steps ≡ true
  pub least : pc ≡ least_pc steps

-- What hart h came to in the last state of a copy. In one that is over each hart that runs goes round some steps for ever: it polls
-- where these load data, and else is parked. In one that is cut off it is running.
abbrev pub IsEnd : Bool → State → ℕ → HartEnd → Type 0
IsEnd is_over s h (Exited code) = SomeHart (λ hart. hart.status ≡ status.Exited code) s h
IsEnd is_over s h (Stopped cause pc) = SomeHart (λ hart. (hart.status ≡ status.Stopped cause) × (hart.pc ≡ pc)) s h
IsEnd is_over s h (Polls pc) = (is_over ≡ true) × GoesRound (PollsFrom pc) s h
IsEnd is_over s h Parked = (is_over ≡ true) × GoesRound (λ steps. polls steps ≡ false) s h
IsEnd is_over s h Running = (is_over ≡ false) × Runs s h

-- an end of each hart
pub record AreEnds (is_over : Bool) (s : State) (ends : List HartEnd) : Type 0 where
  pub count : length ends ≡ length s.harts
  pub each : (h : ℕ) (end : HartEnd) → slice_get ends h ≡ Some end → IsEnd is_over s h end

-- ---- one order

-- the words of the trial of that number
abbrev pub words_of : ℕ → ℕ → ℕ
words_of number index = word_at 0 number index

-- The copy begins with a step of one hart and a step of the other, and from there on the words of that number drive it. Its steps lead
-- from s to the end, and this is what each hart came to there. Where it is over each may rest.
pub record LeadsTo (s : State) (one other number : ℕ) (tried : Tried) (end : State) : Type 0 where
  pub tail : List ℕ
  pub begins : tried.harts.items ≡ one ∷ other ∷ tail
  pub driven : (t : State) → run s (one ∷ other ∷ []) ≡ Some t → AreDriven (words_of number) t tail
  pub leads : run s tried.harts.items ≡ Some end
  pub ends : AreEnds tried.is_over end tried.ends.items
  pub rests : tried.is_over ≡ true → AllMayRest end

-- it leads to some end
pub record IsTried (s : State) (one other number : ℕ) (tried : Tried) : Type 0 where
  pub end : State
  pub is : LeadsTo s one other number tried end

-- ---- how two copies differ

-- the two ends differ, and neither is that the hart runs on
pub record EndsDiffer (one other : HartEnd) : Type 0 where
  pub differ : one ≢ other
  pub ended : one ≢ Running
  pub other_ended : other ≢ Running

-- so do the two ends of some hart
pub record SomeEndsDiffer (ones others : List HartEnd) : Type 0 where
  pub hart : ℕ
  pub one : HartEnd
  pub other : HartEnd
  pub of_one : slice_get ones hart ≡ Some one
  pub of_other : slice_get others hart ≡ Some other
  pub ends : EndsDiffer one other

-- Both are over and printed otherwise, or neither output is a beginning of the other.
abbrev pub prints_differ : Bool → List ℕ → List ℕ → Bool
prints_differ both_over ones others =
    (both_over && not (bytes_eq ones others)) || not (starts_with nat_eq ones others || starts_with nat_eq others ones)

-- the address is one of the stacks of so many harts
abbrev pub in_stacks : ℕ → ℕ → Bool
in_stacks count address = list_any (λ stack. covers stack address) (stacks count)

-- the byte at the address is in no stack, and differs
pub record MemoryDiffers (s t : State) (address : ℕ) : Type 0 where
  pub outside : in_stacks (length s.harts) address ≡ false
  pub bytes : byte s.memory address ≢ byte t.memory address

-- both are over
abbrev pub are_over : Tried → Tried → Bool
are_over one other = one.is_over && other.is_over

-- the copies differ neither in how harts ended nor in what was printed
pub record EndAlike (one other : Tried) (s t : State) : Type 0 where
  pub ends : ¬ SomeEndsDiffer one.ends.items other.ends.items
  pub prints : prints_differ (are_over one other) s.output t.output ≡ false

-- The first of these that holds of two copies and their last states: some hart ended otherwise; they printed otherwise; both are over,
-- and this byte of memory differs. None says nothing of memory.
abbrev pub IsDifference : Tried → Tried → State → State → Difference → Type 0
IsDifference one other s t difference.Ends = SomeEndsDiffer one.ends.items other.ends.items
IsDifference one other s t difference.Prints =
    (¬ SomeEndsDiffer one.ends.items other.ends.items) × (prints_differ (are_over one other) s.output t.output ≡ true)
IsDifference one other s t (difference.Memory address) = EndAlike one other s t × (are_over one other ≡ true) × MemoryDiffers s t address
IsDifference one other s t difference.None = EndAlike one other s t

-- ---- both

-- One hart steps before the other in the first copy, and after it in the second; from there on the same words drive both, those of the
-- trial's number.
pub record IsTrial (s : State) (one other number : ℕ) (trial : Trial) : Type 0 where
  pub first : IsTried s one other number trial.first
  pub second : IsTried s other one number trial.second
  pub difference : IsDifference trial.first trial.second first.end second.end trial.difference

-- a copy has no more than so many steps, and fewer only where each hart may rest
pub record GoesAsFar (s : State) (most : ℕ) (tried : Tried) : Type 0 where
  pub few : length tried.harts.items ≤ most
  pub fewer : length tried.harts.items < most → (end : State) → run s tried.harts.items ≡ Some end → AllMayRest end

-- so do both
pub record GoAsFar (s : State) (most : ℕ) (trial : Trial) : Type 0 where
  pub first : GoesAsFar s most trial.first
  pub second : GoesAsFar s most trial.second
