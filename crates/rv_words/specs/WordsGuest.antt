-- The machine of an input of `words`, its steps, and the state after them, or the first fault.
use Rattle.std.specs.Prelude.{◌≡◌, ℕ, ◌+◌, ◌*◌, ⊤, true, false, nat_lt, if◌then◌else◌, Result, Ok, Err, List, [], ◌∷◌, length}
use Rattle.std.specs.Int.{to_le_bytes, w32}
use Rattle.std.specs.List.{flat_map}
use Rattle.std.specs.Option.{ok_or}
use Rattle.rv_memory.specs.Chain.{◌>>=◌}
use Rattle.rv_memory.specs.Extent.{Extent}
use Rattle.rv_hart.specs.State.{State, start}
use Rattle.rv_hart.specs.Step.{step_of}
use Rattle.rv_words.specs.WordsInput.{WordsInput, input_of}
use Rattle.rv_hart.specs.declared.machine.StepFault.{StepFault}
use Rattle.rv_hart.specs.declared.machine.StepFault.TheVariants as refused
use Rattle.rv_words.specs.declared.fault.WordsFault.{WordsFault}
use Rattle.rv_words.specs.declared.fault.WordsFault.TheVariants.{Line, Step, NoMemory}
use Rattle.rv_words.specs.declared.guest.TheConstants.{TEXT_START, DATA_START, DATA_LENGTH}

-- ---- the guest

-- the instruction words: readable, executable, and exactly these
abbrev pub text_region : List ℕ → Extent
text_region words =
    record { start = TEXT_START; bytes = flat_map (to_le_bytes w32) words; len = 4 * length words; r = true; w = false; x = true }

-- zeros to read and write
abbrev pub data_region : Extent
data_region = record { start = DATA_START; bytes = []; len = DATA_LENGTH; r = true; w = true; x = false }

-- no instruction words are no region
abbrev pub regions : List ℕ → List Extent
regions [] = data_region ∷ []
regions (word ∷ words) = text_region (word ∷ words) ∷ data_region ∷ []

-- the state that an input begins in: its entry is the first word
abbrev pub start_of : WordsInput → State
start_of input = start (regions input.words) TEXT_START input.harts

-- ---- the steps

-- why the number of a hart makes no step: there is no such hart, or it doesn't run
abbrev pub refusal : State → ℕ → StepFault
refusal s h = if nat_lt h (length s.harts) then refused.NotRunning else refused.NoHart

-- the state after the steps, or the first of them that is refused; the first has the number
abbrev pub stepped : ℕ → State → List ℕ → Result State WordsFault
stepped number s [] = Ok s
stepped number s (h ∷ hs) = do
  step ← ok_or (step_of s h) (Step number (refusal s h))
  stepped (number + 1) step.1 hs

-- ---- the whole

abbrev pub told : {A : Type 0} → Result A ℕ → Result A WordsFault
told (Ok a) = Ok a
told (Err line) = Err (Line line)

-- The state after the steps of an input, or why it is refused: its first malformed line, and else its first step
-- that is refused.
unfoldable pub state_of : List ℕ → Result State WordsFault
state_of bytes = do
  input ← told (input_of bytes)
  stepped 0 (start_of input) input.steps

-- the fault is the one that is told; that memory is out says nothing of the text
abbrev pub IsTold : {A : Type 0} → Result A WordsFault → WordsFault → Type 0
IsTold told (Line number) = told ≡ Err (Line number)
IsTold told (Step number fault) = told ≡ Err (Step number fault)
IsTold told NoMemory = ⊤
