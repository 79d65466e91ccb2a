-- What harts do, by their acts.
use Rattle.std.proofs.Common.{◌≡◌, ℕ, zero, suc, List, [], ◌∷◌, length, map, Some, refl, sym, ap, ◌∙◌}
use Rattle.std.specs.Prelude.{slice_get}
use Rattle.rv_hart.specs.State.{State}
use Rattle.rv_stuck.specs.Acts.{conduct_in, conduct_of}
use Rattle.rv_stuck.specs.StuckEnd.{IsStuckEnd}
use Rattle.rv_stuck.specs.declared.acts.Act.{Act}
use Rattle.rv_stuck.specs.declared.stuck.StuckEnd.{StuckEnd}
use Rattle.rv_orders.specs.internal.Ends.{AreActs}

-- where two lists have equal images, the elements at one place have
met : {X Y Z : Type 0} → (f : X → Z) (g : Y → Z) (xs : List X) (ys : List Y) (h : ℕ) (x : X) → map f xs ≡ map g ys → slice_get xs h ≡ Some x → (y : Y) × (slice_get ys h ≡ Some y) × (g y ≡ f x)
met f g [] ys h x same there = cc
met f g (a ∷ xs) [] h x same there = cc
met f g (a ∷ xs) (b ∷ ys) zero x same there =
    let first : f a ≡ g b = cc in
    let is : a ≡ x = cc in
    (b, refl, sym first ∙ ap f is)
met f g (a ∷ xs) (b ∷ ys) (suc h) x same there = let rest : map f xs ≡ map g ys = cc in met f g xs ys h x rest there

as_long : {X Y Z : Type 0} → (f : X → Z) (g : Y → Z) (xs : List X) (ys : List Y) → map f xs ≡ map g ys → length xs ≡ length ys
as_long f g [] [] same = refl
as_long f g [] (b ∷ ys) same = cc
as_long f g (a ∷ xs) [] same = cc
as_long f g (a ∷ xs) (b ∷ ys) same = let rest : map f xs ≡ map g ys = cc in ap suc (as_long f g xs ys rest)

-- the acts of a stuck end say what the harts do
pub acts_say : (s : State) (end : StuckEnd) (acts : List Act) → IsStuckEnd s end → map conduct_in acts ≡ map conduct_of end.harts.items → AreActs s acts
acts_say s end acts is same = record {
  count = as_long conduct_in conduct_of acts end.harts.items same ∙ is.count;
  each = λ h act there.
      let it = met conduct_in conduct_of acts end.harts.items h act same there in
      record { doing = it.0; is = is.each h it.0 it.1; conduct_is = it.2 };
}
