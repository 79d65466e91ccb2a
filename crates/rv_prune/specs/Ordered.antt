-- Which reports are ordered, and which are of an atomic: to the machine a lock, or a release and an acquire of C11, is a race
-- of accesses, each of which is one that such code is made of. (RISC-V Unprivileged ISA, "Code Porting and Mapping Guidelines": the mapping
-- of C and C++ primitives that uses fences.) No rule of the classes asks it.
--
-- All instructions, the accesses' own too, are those of the image's file.
use Rattle.std.specs.Prelude.{ℕ, Bool, true, false, ◌&&◌, ◌||◌, if◌then◌else◌}
use Rattle.std.specs.Option.{option_map_or}
use Rattle.rv_collide.specs.declared.ending.Ending.{Ending}
use Rattle.rv_collide.specs.declared.ending.Verdict.{Verdict}
use Rattle.rv_collide.specs.declared.ending.Verdict.TheVariants.{Hit, Changed, Quiet}
use Rattle.rv_elf.specs.Contents.{Contents}
use Rattle.rv_isa.specs.Shape.{shape_of}
use Rattle.rv_isa.specs.declared.instr.Instr.{Instr}
use Rattle.rv_isa.specs.declared.shape.Shape.{Shape}
use Rattle.rv_isa.specs.declared.shape.Shape.TheVariants.{PlainLoad, PlainStore, Lr, Sc, Amo, Other}
use Rattle.rv_prune.specs.Code.{instruction_at}
use Rattle.rv_prune.specs.Fences.{is_release, is_acquire}
use Rattle.rv_prune.specs.Waits.{is_wait}
use Rattle.rv_prune.specs.declared.role.Role.{Role}
use Rattle.rv_prune.specs.declared.role.Role.TheVariants as role

-- ---- the accesses

-- the part that an access of such a shape, at an address, has
abbrev pub role_of : Contents → ℕ → Shape → Role
role_of image pc Lr = role.Atomic
role_of image pc Sc = role.Atomic
role_of image pc Amo = role.Atomic
role_of image pc (PlainStore size) = if is_release image pc then role.Release else role.Plain
role_of image pc (PlainLoad size) = if is_acquire image pc || is_wait image pc then role.Acquire else role.Load
role_of image pc Other = role.Plain

-- that of the instruction at an address, Plain where the file has none there
unfoldable pub role_at : Contents → ℕ → Role
role_at image pc = option_map_or (λ (i : Instr). role_of image pc (shape_of i.op)) (instruction_at image pc) role.Plain

-- ---- the reports

abbrev pub is_ordering : Role → Bool
is_ordering role.Atomic = true
is_ordering role.Release = true
is_ordering role.Acquire = true
is_ordering role.Load = false
is_ordering role.Plain = false

abbrev pub are_ordered : Role → Role → Bool
are_ordered one other = is_ordering one && is_ordering other

-- an access of LR, SC or an AMO, and a plain load that no fence orders
abbrev pub is_atomic_with_load : Role → Role → Bool
is_atomic_with_load role.Atomic role.Load = true
is_atomic_with_load _ _ = false

abbrev pub are_atomic : Role → Role → Bool
are_atomic one other = is_atomic_with_load one other || is_atomic_with_load other one

abbrev pub meets_ordered : Contents → ℕ → Verdict → Bool
meets_ordered image pc (Hit seen) = are_ordered (role_at image pc) (role_at image seen.access.pc)
meets_ordered image pc Changed = false
meets_ordered image pc Quiet = false

-- a Hit, both of whose accesses order
unfoldable pub is_ordered : Contents → Ending → Bool
is_ordered image e = meets_ordered image e.access.pc e.verdict

abbrev pub meets_atomic : Contents → ℕ → Verdict → Bool
meets_atomic image pc (Hit seen) = are_atomic (role_at image pc) (role_at image seen.access.pc)
meets_atomic image pc Changed = false
meets_atomic image pc Quiet = false

-- a Hit, one of whose accesses is of LR, SC or an AMO, and the other a plain load that no fence orders
unfoldable pub is_atomic : Contents → Ending → Bool
is_atomic image e = meets_atomic image e.access.pc e.verdict
