-- what is permitted are bytes that there are
use Rattle.std.proofs.Common.{◌≡◌, ℕ, ◌<◌, Bool, true, false, [], ◌∷◌, length, get_or, refl}
use Rattle.std.proofs.lemmas.List.Folds.{list_any_at}
use Rattle.rv_memory.specs.Extent.{Extent}
use Rattle.std.specs.Prelude.{◌&&◌, ◌||◌}
use Rattle.rv_memory.specs.Memory.{Memory, holds, allows, permits}
use Rattle.rv_memory.specs.declared.store.Need.{Need}
use Rattle.rv_memory.specs.declared.store.Need.TheVariants as need

drop_need : (a b rest rest' : Bool) → (rest ≡ true → rest' ≡ true) → (a && b) || rest ≡ true → (a && true) || rest' ≡ true
drop_need true b rest rest' f h = refl
drop_need false b rest rest' f h = f h

pub permitted_is_there : (m : Memory) (address size : ℕ) (n : Need) → permits m address size n ≡ true → permits m address size need.Nothing ≡ true
permitted_is_there [] address size n h = h
permitted_is_there (e ∷ es) address size n h =
    drop_need (holds e address size) (allows e n) (permits es address size n) (permits es address size need.Nothing) (permitted_is_there es address size n) h

-- what the extent at a place holds and allows is permitted
pub permitted_at : (m : Memory) (place : ℕ) (e : Extent) (address size : ℕ) (n : Need) → place < length m → holds (get_or m place e) address size && allows (get_or m place e) n ≡ true → permits m address size n ≡ true
permitted_at m place e address size n below h = list_any_at (λ x. holds x address size && allows x n) m place e below h
