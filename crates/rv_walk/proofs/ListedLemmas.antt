-- A set that a list was collected to.
use Rattle.std.proofs.Common.{◌≡◌, ℕ, List, sym, subst, ◌∙◌}
use Rattle.std.specs.Prelude.{nat_eq}
use Rattle.std.specs.HashSet.{HashSet, IsFromIterResult}
use Rattle.std.proofs.lemmas.Cmp.{nat_eq_equiv}
use Rattle.std.proofs.lemmas.Map.Views.{Contains-from_any, exact_unsigned_eq, list_any-from_Contains}
use Rattle.rv_walk.specs.internal.Listed.{AreListed}

pub listed_by : {S : Type 0} (set : HashSet ℕ S) (from list : List ℕ) → from ≡ list → IsFromIterResult nat_eq from set → AreListed set list
listed_by set from list same is =
    subst (AreListed set) same (λ q. (λ found. Contains-from_any exact_unsigned_eq q from (sym (is.0 q) ∙ found), λ has. is.0 q ∙ list_any-from_Contains nat_eq_equiv q from has))
