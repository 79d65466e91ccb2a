use Rattle.std.specs.Prelude.{ℕ, Bool, true, false}
use Rattle.rv_hart.specs.declared.access.Access.{Access}
use Rattle.rv_hart.specs.declared.access.AccessKind.{AccessKind}
use Rattle.rv_hart.specs.declared.access.AccessKind.TheVariants.{Load, Store, Both}
use Rattle.rv_hart.specs.declared.hart.Hart.{Hart}
use Rattle.rv_memory.specs.declared.store.Need.{Need}
use Rattle.rv_memory.specs.declared.store.Need.TheVariants as need

abbrev pub does_read : AccessKind → Bool
does_read Load = true
does_read Store = false
does_read Both = true

abbrev pub does_write : AccessKind → Bool
does_write Load = false
does_write Store = true
does_write Both = true

-- what the bytes of that kind of access are needed for
abbrev pub need_of : AccessKind → Need
need_of Load = need.Read
need_of Store = need.Write
need_of Both = need.ReadWrite

-- the access of that kind that a hart makes
abbrev pub access_of_kind : AccessKind → Hart → ℕ → ℕ → Access
access_of_kind kind hart first size =
    record { pc = hart.pc; first = first; size = size; read = does_read kind; write = does_write kind }
