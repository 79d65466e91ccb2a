-- Bytes that are held, as the list that they are.
use Rattle.std.specs.Prelude.{ℕ, List, Result, Ok, Err}
use Rattle.std.specs.declared.vec.Vec.{Vec}
use Rattle.std.specs.declared.alloc.Global.{Global}
use Rattle.rv_asm.specs.declared.statement.AsmKind.{AsmKind}

abbrev pub listed : Result (Vec ℕ Global) AsmKind → Result (List ℕ) AsmKind
listed (Ok bytes) = Ok bytes.items
listed (Err kind) = Err kind
