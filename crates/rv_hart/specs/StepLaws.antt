-- What a step of each class of instructions changes, and what stays.
use Rattle.std.specs.Prelude.{◌≡◌, ◌≢◌, ℕ, ℤ, pos, ◌+ℤ◌, ◌*ℤ◌, ◌+◌, ◌-◌, ◌*◌, ◌^◌, ◌<◌, ◌≤◌, ◌<ℤ◌, ◌≤ℤ◌, ◌↔◌, Bool, true, false, ◌&&◌, nat_le, nat_lt, IsTrue, Option, Some, None, List, [], ◌∷◌, ◌++◌, length, map, slice_get, slice_set, unsigned_abs}
use Rattle.std.specs.Int.{int_shr, w32, w64}
use Rattle.std.specs.Int.RustNames.{FitsSigned, int_div}
use Rattle.rv_hart.specs.Act.{following}
use Rattle.rv_hart.specs.SomeHart.{SomeHart}
use Rattle.rv_hart.specs.NextAccess.{accessed}
use Rattle.rv_hart.specs.Refusals.{IsIdle, is_running_hart}
use Rattle.rv_hart.specs.Registers.{get, set}
use Rattle.rv_hart.specs.State.{State, is_running}
use Rattle.rv_hart.specs.Step.{step_of, action_at, seen_by, reads, writes, both, write}
use Rattle.rv_hart.specs.Arithmetic.{integer, less_signed, shift_left, shift_right, shift_right_signed, low_half, high_half, quotient, quotient_signed, remainder, remainder_signed, combined, extended}
use Rattle.rv_hart.specs.declared.access.Access.{Access}
use Rattle.rv_hart.specs.declared.access.Event.{Event}
use Rattle.rv_hart.specs.declared.access.Event.TheVariants as event
use Rattle.rv_hart.specs.declared.action.Action.{Action}
use Rattle.rv_hart.specs.declared.action.Action.TheVariants.{Trap, Set, Load, Store, Reserve, Conditional, Replace, Print, Exit}
use Rattle.rv_hart.specs.declared.action.Combine.{Combine}
use Rattle.rv_hart.specs.declared.hart.Cause.{Cause}
use Rattle.rv_hart.specs.declared.hart.Hart.{Hart}
use Rattle.rv_hart.specs.declared.hart.Status.TheVariants as status
use Rattle.rv_hart.specs.declared.write.Write.{Write}
use Rattle.rv_memory.specs.Memory.{byte, load, store}

-- hart h runs, it is `hart`, and this is what it does next
pub record Acts (s : State) (h : ℕ) (hart : Hart) (action : Action) : Type 0 where
  pub there : slice_get s.harts h ≡ Some hart
  pub running : IsTrue (is_running hart.status)
  pub next : action_at s.memory hart ≡ action

-- hart h has become another, and all else stays
abbrev pub with_hart : State → ℕ → Hart → State
with_hart s h hart = record s { harts = slice_set s.harts h hart }

-- hart h has become another and has written: each other hart has seen it, and the output stays
abbrev pub with_write : State → ℕ → Hart → Write → State
with_write s h hart w =
    record s { harts = slice_set (map (seen_by (Some w)) s.harts) h hart; memory = store s.memory w.address w.size w.value }

-- ---- what a step of each class changes; all else stays

-- a trap changes the hart's status alone
abbrev pub TrapLaw : Type 0
TrapLaw =
    (s : State) (h : ℕ) (hart : Hart) (cause : Cause) → Acts s h hart (Trap cause) → step_of s h ≡ Some (event.Stopped cause, with_hart s h (record hart { status = status.Stopped cause }))

-- so does an exit
abbrev pub ExitLaw : Type 0
ExitLaw =
    (s : State) (h : ℕ) (hart : Hart) (code : ℕ) → Acts s h hart (Exit code) → step_of s h ≡ Some (event.Exited code, with_hart s h (record hart { status = status.Exited code }))

-- a computation, a jump or a branch sets one register and the pc
abbrev pub SetLaw : Type 0
SetLaw =
    (s : State) (h : ℕ) (hart : Hart) (rd value next : ℕ) → Acts s h hart (Set rd value next) → step_of s h ≡ Some (event.Moved None, with_hart s h (record hart { registers = set hart.registers rd value; pc = next }))

-- a load sets one register to the bytes, extended, and goes on
abbrev pub LoadLaw : Type 0
LoadLaw =
    (s : State) (h : ℕ) (hart : Hart) (rd address size : ℕ) (signed : Bool) → Acts s h hart (Load rd address size signed) → step_of s h ≡ Some (event.Moved (Some (reads hart address size)), with_hart s h (record hart { registers = set hart.registers rd (extended signed size (load s.memory address size)); pc = following hart }))

-- a store writes its bytes and goes on
abbrev pub StoreLaw : Type 0
StoreLaw =
    (s : State) (h : ℕ) (hart : Hart) (address size value : ℕ) → Acts s h hart (Store address size value) → step_of s h ≡ Some (event.Moved (Some (writes hart address size)), with_write s h (record hart { pc = following hart }) (write address size value))

-- LR sets one register to the word and reserves it, in the place of what was reserved before
abbrev pub ReserveLaw : Type 0
ReserveLaw =
    (s : State) (h : ℕ) (hart : Hart) (rd address : ℕ) → Acts s h hart (Reserve rd address) → step_of s h ≡ Some (event.Moved (Some (reads hart address 4)), with_hart s h (record hart { registers = set hart.registers rd (load s.memory address 4); pc = following hart; reservation = Some address }))

-- SC succeeds where its hart holds a reservation of its word: it writes the word and sets rd to 0. The
-- reservation ends.
abbrev pub ScSucceedsLaw : Type 0
ScSucceedsLaw =
    (s : State) (h : ℕ) (hart : Hart) (rd address value : ℕ) → Acts s h hart (Conditional rd address value) → hart.reservation ≡ Some address → step_of s h ≡ Some (event.Moved (Some (writes hart address 4)), with_write s h (record hart { registers = set hart.registers rd 0; pc = following hart; reservation = None }) (write address 4 value))

-- else it accesses nothing and sets rd to 1; the reservation ends too
abbrev pub ScFailsLaw : Type 0
ScFailsLaw =
    (s : State) (h : ℕ) (hart : Hart) (rd address value : ℕ) → Acts s h hart (Conditional rd address value) → hart.reservation ≢ Some address → step_of s h ≡ Some (event.Moved None, with_hart s h (record hart { registers = set hart.registers rd 1; pc = following hart; reservation = None }))

-- an AMO sets one register to the old word and stores its operation
abbrev pub AmoLaw : Type 0
AmoLaw =
    (s : State) (h : ℕ) (hart : Hart) (rd address value : ℕ) (combine : Combine) → Acts s h hart (Replace rd address combine value) → step_of s h ≡ Some (event.Moved (Some (both hart address 4)), with_write s h (record hart { registers = set hart.registers rd (load s.memory address 4); pc = following hart }) (write address 4 (combined combine (load s.memory address 4) value)))

-- a byte that is printed goes to the end of the output
abbrev pub PrintLaw : Type 0
PrintLaw =
    (s : State) (h : ℕ) (hart : Hart) (byte : ℕ) → Acts s h hart (Print byte) → step_of s h ≡ Some (event.Moved None, record (with_hart s h (record hart { pc = following hart })) { output = s.output ++ byte ∷ [] })

-- ---- what no step does

-- the two harts differ at most in their reservations
pub record SameButReservation (a b : Hart) : Type 0 where
  pub registers : b.registers ≡ a.registers
  pub pc : b.pc ≡ a.pc
  pub status : b.status ≡ a.status

-- a step of one hart changes no other hart's registers, pc or status
abbrev pub OtherHartsStay : Type 0
OtherHartsStay =
    (before after : State) (h : ℕ) (made : Event) → step_of before h ≡ Some (made, after) → (j : ℕ) → j ≢ h → (other : Hart) → slice_get before.harts j ≡ Some other → SomeHart (SameButReservation other) after j

-- the event's access writes the byte at the address
abbrev pub access_writes : Option Access → ℕ → Bool
access_writes None address = false
access_writes (Some a) address = a.write && (nat_le a.first address && nat_lt address (a.first + a.size))

-- a step changes only bytes that its own access writes
abbrev pub OtherBytesStay : Type 0
OtherBytesStay =
    (before after : State) (h : ℕ) (made : Event) → step_of before h ≡ Some (made, after) → (address : ℕ) → access_writes (accessed made) address ≡ false → byte after.memory address ≡ byte before.memory address

-- a step keeps what was printed, and prints one more byte at most
abbrev pub OutputLaw : Type 0
OutputLaw =
    (before after : State) (h : ℕ) (made : Event) → step_of before h ≡ Some (made, after) → (bytes : List ℕ) × (length bytes ≤ 1) × (after.output ≡ before.output ++ bytes)

-- a step whose event is a move ends no hart
abbrev pub MovesRunOn : Type 0
MovesRunOn =
    (before after : State) (h : ℕ) (access : Option Access) → step_of before h ≡ Some (event.Moved access, after) → is_running_hart (slice_get after.harts h) ≡ true

-- no step is made by a number that no hart has, or by a hart that does not run
abbrev pub NoHartLaw : Type 0
NoHartLaw = (s : State) (h : ℕ) → length s.harts ≤ h → step_of s h ≡ None

abbrev pub IdleLaw : Type 0
IdleLaw = (s : State) (h : ℕ) → IsIdle s h → step_of s h ≡ None

-- ---- registers and words

-- x0 is read as 0 whatever stands there; a register that is set is read back, and no other changes
pub record RegistersLaw : Type 0 where
  pub zero : (registers : List ℕ) → get registers 0 ≡ 0
  pub zero_stays : (registers : List ℕ) (value : ℕ) → set registers 0 value ≡ registers
  pub read_back : (registers : List ℕ) (r value : ℕ) → 0 < r → r < length registers → get (set registers r value) r ≡ value
  pub others : (registers : List ℕ) (r other value : ℕ) → other ≢ r → get (set registers r value) other ≡ get registers other

-- Compares and shifts agree with the numbers that the words stand for; SRA rounds down, as a shift of
-- the integer does.
pub record ArithmeticLaw : Type 0 where
  pub less : (a b : ℕ) → IsTrue (less_signed a b) ↔ (integer a <ℤ integer b)
  pub left : (a amount : ℕ) → (carried : ℕ) × (a * 2 ^ amount ≡ shift_left a amount + carried * 2 ^ 32)
  pub right : (a amount : ℕ) → (lost : ℕ) × (lost < 2 ^ amount) × (a ≡ shift_right a amount * 2 ^ amount + lost)
  pub right_signed : (a amount : ℕ) → a < 2 ^ 32 → integer (shift_right_signed a amount) ≡ int_shr (integer a) amount

-- a number is 0 or has the sign of another
pub record HasSignOf (whole rest : ℤ) : Type 0 where
  pub not_negative : pos 0 ≤ℤ whole → pos 0 ≤ℤ rest
  pub not_positive : whole ≤ℤ pos 0 → rest ≤ℤ pos 0

-- The halves of a product are the product, and the low one is the same however the factors are read. Quotient and
-- remainder make up the dividend, where the quotient is a word's number. A signed remainder is nearer to zero than the
-- divisor and has the dividend's sign: so the quotient is rounded towards zero. The rest is the manual's table of special
-- cases. (RISC-V Unprivileged ISA, "Multiplication Operations", "Division Operations".)
pub record ProductLaw : Type 0 where
  pub whole : (a b : ℕ) → a < 2 ^ 32 → b < 2 ^ 32 → high_half (pos a *ℤ pos b) * 2 ^ 32 + low_half (pos a *ℤ pos b) ≡ a * b
  pub whole_signed : (z : ℤ) → FitsSigned w64 z → integer (high_half z) *ℤ pos (2 ^ 32) +ℤ pos (low_half z) ≡ z
  pub same_low : (a b : ℕ) → a < 2 ^ 32 → b < 2 ^ 32 → low_half (integer a *ℤ integer b) ≡ low_half (pos a *ℤ pos b)
  pub made_up : (a b : ℕ) → 0 < b → (quotient a b * b + remainder a b ≡ a) × (remainder a b < b)
  pub made_up_signed : (a b : ℕ) → 0 < b → FitsSigned w32 (int_div (integer a) (integer b)) → a < 2 ^ 32 → b < 2 ^ 32 → integer (quotient_signed a b) *ℤ integer b +ℤ integer (remainder_signed a b) ≡ integer a
  pub smaller : (a b : ℕ) → 0 < b → a < 2 ^ 32 → b < 2 ^ 32 → unsigned_abs (integer (remainder_signed a b)) < unsigned_abs (integer b)
  pub towards_zero : (a b : ℕ) → 0 < b → a < 2 ^ 32 → b < 2 ^ 32 → HasSignOf (integer a) (integer (remainder_signed a b))
  pub by_zero : (a : ℕ) → (quotient a 0 ≡ 2 ^ 32 - 1) × (quotient_signed a 0 ≡ 2 ^ 32 - 1) × (remainder a 0 ≡ a) × (remainder_signed a 0 ≡ a)
  pub overflow : (quotient_signed (2 ^ 31) (2 ^ 32 - 1) ≡ 2 ^ 31) × (remainder_signed (2 ^ 31) (2 ^ 32 - 1) ≡ 0)
