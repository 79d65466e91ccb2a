-- a folder is there or not, as before
use Rattle.std.proofs.Common.{◌≡◌, is_some}
use Rattle.rv_remade.proofs.beside.save_ends.Given as goal

abbrev pub invariant-loop-place : goal.invariant-loop-place
invariant-loop-place g l = is_some l.folder ≡ is_some l.fn.folder
