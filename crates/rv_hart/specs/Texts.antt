-- The lines of a hart and of the output, and the text of an access.
use Rattle.std.specs.Prelude.{ℕ, Bool, true, false, ◌+◌, ◌==◌, if◌then◌else◌, Option, Some, None, List, [], ◌∷◌, ◌++◌, codes}
use Rattle.std.specs.List.{flat_map, range_with_len}
use Rattle.std.specs.Fmt.{decimal}
use Rattle.rv_text.specs.Hexadecimal.{byte_digits, word_digits}
use Rattle.rv_text.specs.Lines.{text_of_lines}
use Rattle.rv_hart.specs.Cause.{number}
use Rattle.rv_hart.specs.Registers.{get}
use Rattle.rv_hart.specs.State.{State}
use Rattle.rv_hart.specs.declared.access.Access.{Access}
use Rattle.rv_hart.specs.declared.hart.Hart.{Hart}
use Rattle.rv_hart.specs.declared.hart.Status.{Status}
use Rattle.rv_hart.specs.declared.hart.Status.TheVariants.{Running, Exited, Stopped}

-- `running`, `exited` with the code in eight digits, or `stopped` with the cause's number
abbrev pub status_text : Status → List ℕ
status_text Running = codes "running"
status_text (Exited code) = codes "exited " ++ word_digits code
status_text (Stopped cause) = codes "stopped " ++ decimal (number cause)

-- ` xN VALUE`, or nothing where the value is 0
abbrev pub value_text : ℕ → ℕ → List ℕ
value_text r value = if value == 0 then [] else codes " x" ++ decimal r ++ codes " " ++ word_digits value

abbrev pub register_text : List ℕ → ℕ → List ℕ
register_text registers r = value_text r (get registers r)

abbrev pub registers_text : List ℕ → List ℕ
registers_text registers = flat_map (register_text registers) (range_with_len 0 32)

-- ` lr ADDR` of a hart that holds a reservation
abbrev pub reservation_text : Option ℕ → List ℕ
reservation_text None = []
reservation_text (Some address) = codes " lr " ++ word_digits address

abbrev pub front_text : ℕ → List ℕ
front_text h = codes "hart " ++ decimal h ++ codes " "

abbrev pub pc_text : ℕ → List ℕ
pc_text pc = codes " pc " ++ word_digits pc

-- `hart H STATUS pc ADDR`, the registers that aren't 0, and the reservation
abbrev pub hart_line : ℕ → Hart → List ℕ
hart_line h hart =
    front_text h ++ status_text hart.status ++ pc_text hart.pc ++ registers_text hart.registers ++ reservation_text hart.reservation

-- the lines of harts, the first of which has the number
abbrev pub hart_lines : ℕ → List Hart → List (List ℕ)
hart_lines h [] = []
hart_lines h (hart ∷ harts) = hart_line h hart ∷ hart_lines (h + 1) harts

-- `out`, and for each byte a blank and two digits
abbrev pub output_line : List ℕ → List ℕ
output_line output = codes "out" ++ flat_map (λ byte. 32 ∷ byte_digits byte) output

-- what a state is shown as: a line of each hart, and a line of the output
unfoldable pub state_text : State → List ℕ
state_text s = text_of_lines (hart_lines 0 s.harts ++ output_line s.output ∷ [])

-- ---- accesses

-- `load`, `store` or `both`, by what an access reads and writes
abbrev pub kind_text : Bool → Bool → List ℕ
kind_text read true = if read then codes "both" else codes "store"
kind_text read false = codes "load"

-- `pc ADDR KIND ADDR SIZE`
abbrev pub access_text : Access → List ℕ
access_text a =
    codes "pc " ++ word_digits a.pc ++ codes " " ++ kind_text a.read a.write ++ codes " " ++ word_digits a.first ++ codes " " ++ decimal a.size
