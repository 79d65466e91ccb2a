-- A legal schedule: each entry is what its call is forced to add.
use Rattle.std.specs.Prelude.{◌≡◌, ℕ, Some, Ok, List, slice_get, take}
use Rattle.rv_collide.specs.Forced.{Setting, Call, Turn, Resume, Arm, Disarm, forced}
use Rattle.rv_collide.specs.declared.entry.Entry.{Entry}
use Rattle.rv_collide.specs.declared.entry.Entry.TheVariants.{Stepped, Paused, Resumed, Armed, Disarmed}

-- the call that adds an entry
abbrev pub call_of : Entry → Call
call_of (Stepped hart) = Turn hart
call_of (Paused hart slot) = Turn hart
call_of (Resumed hart) = Resume hart
call_of (Armed address) = Arm address
call_of (Disarmed address) = Disarm address

abbrev pub IsLegal : Setting → List Entry → Type 0
IsLegal setting entries =
    (place : ℕ) (entry : Entry) → slice_get entries place ≡ Some entry → forced setting (take place entries) (call_of entry) ≡ Ok entry
