-- A set with the addresses of a list.
use Rattle.std.specs.Prelude.{ℕ, ◌↔◌, IsTrue, List, nat_eq}
use Rattle.std.specs.HashSet.{HashSet, contains}
use Rattle.std.specs.List.{Contains}

abbrev pub AreListed : {S : Type 0} → HashSet ℕ S → List ℕ → Type 0
AreListed set list = (address : ℕ) → IsTrue (contains nat_eq set address) ↔ Contains list address
