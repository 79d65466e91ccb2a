-- What is shown of the end of a schedule that is stuck.
use Rattle.std.specs.Prelude.{◌≡◌, ℕ, ⊤, Bool, true, false, not, ◌==◌, min, Option, Some, IfSome, IsSomeAnd, List, [], ◌∷◌, length, map, replicate, slice_get}
use Rattle.std.specs.List.{list_any, prefix_len}
use Rattle.rv_collide.specs.Entries.{steps}
use Rattle.rv_collide.specs.StateAt.{state_at}
use Rattle.rv_collide.specs.declared.entry.Entry.{Entry}
use Rattle.rv_elf.specs.Contents.{Contents}
use Rattle.rv_explain.specs.Caller.{caller_in}
use Rattle.rv_explain.specs.StuckReads.{reads_of}
use Rattle.rv_explain.specs.declared.stuck.ReadBytes.{ReadBytes}
use Rattle.rv_explain.specs.declared.stuck.StuckBlock.{StuckBlock}
use Rattle.rv_explain.specs.declared.stuck.StuckHart.{StuckHart}
use Rattle.rv_explain.specs.declared.stuck.StuckHart.TheVariants.{Exited, Stopped, Waits}
use Rattle.rv_hart.specs.Run.{run}
use Rattle.rv_hart.specs.State.{State}
use Rattle.rv_memory.specs.Memory.{Memory}
use Rattle.rv_stuck.specs.Acts.{least_pc}
use Rattle.rv_stuck.specs.StuckEnd.{IsStuckEnd}
use Rattle.rv_stuck.specs.declared.stuck.Doing.{Doing}
use Rattle.rv_stuck.specs.declared.stuck.Doing.TheVariants as doing
use Rattle.rv_stuck.specs.declared.stuck.RoundStep.{RoundStep}
use Rattle.rv_stuck.specs.declared.stuck.StuckEnd.{StuckEnd}

-- ---- what harts do

-- a hart has exited or stopped, or it goes round these steps, and reads this
pub data Does : Type 0 where
  HasExited : Does
  HasStopped : Does
  GoesRound : List RoundStep → List ReadBytes → Does

-- what a hart does of a stuck end, where its round reads this
abbrev pub does : Doing → List ReadBytes → Does
does doing.Exited reads = HasExited
does doing.Stopped reads = HasStopped
does (doing.Waits steps) reads = GoesRound steps.items reads

-- what it is shown to do
abbrev pub shown_as : StuckHart → Does
shown_as Exited = HasExited
shown_as Stopped = HasStopped
shown_as (Waits waiting) = GoesRound waiting.steps.items waiting.reads.items

-- what a hart does at the end of a schedule, whose memory is this
abbrev pub does_after : State → List Entry → Memory → Doing → Does
does_after start entries memory doing = does doing (reads_of start entries memory doing)

-- how many steps there are before the first one at the least address
abbrev pub least_place : List RoundStep → ℕ
least_place steps = prefix_len (λ (step : RoundStep). not (step.pc == least_pc steps)) steps

-- Where the function at the least address of a round returns to: that is read where hart h has come there by its own steps.
abbrev pub IsCaller : Contents → State → ℕ → List RoundStep → Option ℕ → Type 0
IsCaller image s h steps caller = IfSome (run s (replicate (least_place steps) h)) (λ t. caller ≡ caller_in image h (least_pc steps) t)

abbrev pub IsCalled : Contents → State → ℕ → StuckHart → Type 0
IsCalled image s h Exited = ⊤
IsCalled image s h Stopped = ⊤
IsCalled image s h (Waits waiting) = IsCaller image s h waiting.steps.items waiting.caller

-- of each hart
abbrev pub AreCalled : Contents → State → List StuckHart → Type 0
AreCalled image s harts = (h : ℕ) (hart : StuckHart) → slice_get harts h ≡ Some hart → IsCalled image s h hart

-- the harts of a stuck end of this state, which a schedule leads to, are shown
pub record AreShown (image : Contents) (start : State) (entries : List Entry) (harts : List StuckHart) (s : State) : Type 0 where
  pub end : StuckEnd
  pub is_stuck : IsStuckEnd s end
  pub are_shown : map shown_as harts ≡ map (does_after start entries s.memory) end.harts.items
  pub are_called : AreCalled image s harts

-- the schedule's steps lead to a state, and the harts of a stuck end of it are shown
abbrev pub IsShownEnd : Contents → State → List Entry → StuckBlock → Type 0
IsShownEnd image start entries block = IsSomeAnd (state_at start entries (length entries)) (AreShown image start entries block.harts.items)

-- how many of the entries are steps, as far as a number of 32 bits says it
abbrev pub step_count : List Entry → ℕ
step_count entries = min (length (steps entries)) 0xffff_ffff

-- ---- who polls

abbrev pub are_some : List ReadBytes → Bool
are_some [] = false
are_some (first ∷ rest) = true

-- its round reads data
abbrev pub polls : StuckHart → Bool
polls Exited = false
polls Stopped = false
polls (Waits waiting) = are_some waiting.reads.items

abbrev pub some_polls : List StuckHart → Bool
some_polls harts = list_any polls harts
