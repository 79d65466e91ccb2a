-- What the commands of a session answer.
use Rattle.std.specs.Prelude.{◌≡◌, ℕ, ◌+◌, ◌%◌, ◌==◌, ◌<◌, ◌≤◌, zero, suc, Option, Some, None, option_and_then, option_map, IsSome, IsSomeAnd, if◌then◌else◌, List, [], ◌∷◌, length, slice_get}
use Rattle.rv_asm.specs.Listing.{listed, word_from}
use Rattle.rv_collide.specs.Made.{made}
use Rattle.rv_debug.specs.Placed.{Placed, SomeState, setting}
use Rattle.rv_debug.specs.declared.hart_view.HartView.{HartView}
use Rattle.rv_hart.specs.Conflict.{Touches}
use Rattle.rv_hart.specs.Registers.{get}
use Rattle.rv_hart.specs.SomeHart.{SomeHart}
use Rattle.rv_hart.specs.State.{State}
use Rattle.rv_hart.specs.declared.hart.Hart.{Hart}
use Rattle.rv_memory.specs.Memory.{Memory, byte}

-- ---- harts

-- the view shows the hart, its registers as they are read
pub record IsView (hart : Hart) (view : HartView) : Type 0 where
  pub status : view.status ≡ hart.status
  pub pc : view.pc ≡ hart.pc
  pub registers : (r : ℕ) → r < 32 → slice_get view.registers r ≡ Some (get hart.registers r)
  pub reservation : view.reservation ≡ hart.reservation

-- there is a hart of the number at the place, and the view shows it
abbrev pub ShowsHart : Placed → ℕ → HartView → Type 0
ShowsHart p h view = SomeState (λ (s : State). SomeHart (λ hart. IsView hart view) s h) p

-- there is no hart of the number at the place
abbrev pub HasNoHart : Placed → ℕ → Type 0
HasNoHart p h = SomeState (λ (s : State). length s.harts ≤ h) p

-- ---- memory

-- what stands at so many addresses, each `step` above the one before it, where something stands at each
abbrev pub series : {A : Type 0} → (ℕ → Option A) → ℕ → ℕ → ℕ → Option (List A)
series at step address zero = Some []
series at step address (suc count) =
    option_and_then (λ x. option_map (λ xs. x ∷ xs) (series at step (address + step) count)) (at address)

-- so many bytes from an address on
abbrev pub bytes_from : Memory → ℕ → ℕ → Option (List ℕ)
bytes_from m address len = series (byte m) 1 address len

-- the word at an address, the least significant byte first
abbrev pub word_at : Memory → ℕ → Option ℕ
word_at m address =
    option_and_then (λ a. option_and_then (λ b. option_and_then (λ c. option_map (λ d. word_from a b c d) (byte m (address + 3))) (byte m (address + 2))) (byte m (address + 1))) (byte m address)

-- its line in a listing
abbrev pub line_at : Memory → ℕ → Option (List ℕ)
line_at m address = option_map (λ word. listed address word) (word_at m address)

-- the lines of so many words from an address on, a multiple of 4
abbrev pub lines_from : Memory → ℕ → ℕ → Option (List (List ℕ))
lines_from m address count = if address % 4 == 0 then series (line_at m) 4 address count else None

-- each of the bytes is there at the place
abbrev pub HasBytes : Placed → ℕ → ℕ → Type 0
HasBytes p address len = SomeState (λ (s : State). IsSome (bytes_from s.memory address len)) p

-- one of the bytes is not there
abbrev pub HasNoBytes : Placed → ℕ → ℕ → Type 0
HasNoBytes p address len = SomeState (λ (s : State). bytes_from s.memory address len ≡ None) p

-- the address is a multiple of 4, and each of the words is there at the place
abbrev pub HasLines : Placed → ℕ → ℕ → Type 0
HasLines p address count = SomeState (λ (s : State). IsSome (lines_from s.memory address count)) p

-- the address is no multiple of 4, or one of the words is not there
abbrev pub HasNoLines : Placed → ℕ → ℕ → Type 0
HasNoLines p address count = SomeState (λ (s : State). lines_from s.memory address count ≡ None) p

-- ---- accesses

-- what the entry at a place accessed is the byte at the address, or the byte and others
abbrev pub TouchesAt : Placed → ℕ → ℕ → Type 0
TouchesAt p address place = IsSomeAnd (made (setting p).start p.entries place) (λ access. Touches access address)

-- the least place, from the present one on, whose entry touches the byte
pub record IsFirstTouch (p : Placed) (address found : ℕ) : Type 0 where
  pub from : p.place ≤ found
  pub touches : TouchesAt p address found
  pub least : (place : ℕ) → p.place ≤ place → place < found → TouchesAt p address place → ⊥

-- no entry from the present place on touches the byte
abbrev pub HasNoTouch : Placed → ℕ → Type 0
HasNoTouch p address = (place : ℕ) → p.place ≤ place → TouchesAt p address place → ⊥
