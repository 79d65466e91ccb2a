use Rattle.std.specs.Prelude.{◌≡◌, ℕ, true, Option}
use Rattle.rv_hart.specs.declared.access.Access.{Access}
use Rattle.rv_waits.specs.Touched.{covers}
use Rattle.rv_waits.specs.Touches.{in_access, is_among}
use Rattle.rv_waits.specs.declared.touched.Touched.{Touched}

-- what was covered is so still, and so are the bytes of a further step
pub record IsAdded (old new : Touched) (pc : ℕ) (access : Option Access) : Type 0 where
  pub kept : (address : ℕ) → covers old address ≡ true → covers new address ≡ true
  pub instruction : (address : ℕ) → is_among pc 4 address ≡ true → covers new address ≡ true
  pub accessed : (address : ℕ) → in_access access address ≡ true → covers new address ≡ true
