-- What the rules of the classes come to.
use Rattle.std.specs.Prelude.{◌≡◌, ◌↔◌, ℕ, ◌+◌, ◌<◌, ◌≤◌, true, bit_and, IsTrue}
use Rattle.rv_collide.specs.declared.ending.Ending.{Ending}
use Rattle.rv_hart.specs.Conflict.{Touches}
use Rattle.rv_hart.specs.Arithmetic.{word}
use Rattle.rv_hart.specs.declared.access.Access.{Access}
use Rattle.rv_isa.specs.declared.instr.Instr.{Instr}
use Rattle.rv_prune.specs.Class.{touches, loaded_by, looks_same}

-- an address is a byte of an access and of a range
pub record IsShared (access : Access) (range : ℕ × ℕ) (address : ℕ) : Type 0 where
  pub of_access : Touches access address
  pub from : range.0 ≤ address
  pub before : address < range.0 + range.1

-- A range is touched exactly where some address is a byte of both.
abbrev pub TouchingIsSharing : Type 0
TouchingIsSharing = (access : Access) (range : ℕ × ℕ) → IsTrue (touches access range) ↔ ((address : ℕ) × IsShared access range address)

-- Through the mask the old and the new value are one: what ANDI gives is the same.
abbrev pub FlagsLookSame : Type 0
FlagsLookSame = (load mask : Instr) (e : Ending) → looks_same load mask e ≡ true
    → bit_and (loaded_by load.op e.old) (word mask.imm) ≡ bit_and (loaded_by load.op e.new) (word mask.imm)
