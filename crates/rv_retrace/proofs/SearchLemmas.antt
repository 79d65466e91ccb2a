-- The first and the last of what is found at some places.
use Rattle.std.proofs.Common.{◌≡◌, ◌∙◌, ℕ, ◌+◌, ◌-◌, ◌<◌, ◌≤◌, zero, suc, true, false, Option, Some, None, refl, sym, ap, arith}
use Rattle.std.specs.Prelude.{IfNone, IfSome, is_some}
use Rattle.rv_gdb.specs.declared.stop.Stop.{Stop}
use Rattle.std.specs.Option.{option_or}
use Rattle.rv_gdb.specs.Search.{first_in}
use Rattle.rv_retrace.specs.Going.{last_in}

-- ---- forwards

or_some : {A : Type 0} (o other : Option A) → is_some o ≡ true → option_or o other ≡ o
or_some None other is = cc
or_some (Some x) other is = refl

pub none_of : {A : Type 0} (o : Option A) → is_some o ≡ false → o ≡ None
none_of None is = refl
none_of (Some x) is = cc

pub none_gives : {A : Type 0} {P : Type 0} (o : Option A) → o ≡ None → IfNone o P → P
none_gives None is holds = holds
none_gives (Some x) is holds = cc

pub near_more : (o last : Option Stop) (place : ℕ) → IfSome o (λ stop. (stop.hart < 16) × (stop.place ≤ place + 1)) → IfSome last (λ stop. (stop.hart < 16) × (stop.place ≤ place)) → IfSome (option_or o last) (λ stop. (stop.hart < 16) × (stop.place ≤ place + 1))
near_more None None place a b = b
near_more None (Some stop) place a b = (b.0, let le = b.1 in omega (arith, le))
near_more (Some stop) last place a b = a

module _ {A : Type 0} (at : ℕ → Option A) where
  -- the search goes on by one place
  first_goes_on : (place to : ℕ) → place < to → first_in at place (to - place) ≡ option_or (at place) (first_in at (place + 1) (to - (place + 1)))
  unfolding first_in
  first_goes_on place to lt =
      let e : to - place ≡ suc (to - (place + 1)) = omega arith in
      rw e refl

  pub first_here : (whole : Option A) (place to : ℕ) (o : Option A) → place < to → whole ≡ first_in at place (to - place) → o ≡ at place → is_some o ≡ true → o ≡ whole
  first_here whole place to o lt is here found =
      sym (or_some o _ found) ∙ sym (is ∙ first_goes_on place to lt ∙ ap (λ o. option_or o (first_in at (place + 1) (to - (place + 1)))) (sym here))

  pub first_later : (whole : Option A) (place to : ℕ) (o : Option A) → place < to → whole ≡ first_in at place (to - place) → o ≡ at place → o ≡ None → whole ≡ first_in at (place + 1) (to - (place + 1))
  first_later whole place to o lt is here none =
      is ∙ first_goes_on place to lt ∙ ap (λ o. option_or o (first_in at (place + 1) (to - (place + 1)))) (sym here ∙ none)

  pub first_nowhere : (whole : Option A) (place to : ℕ) → to ≤ place → whole ≡ first_in at place (to - place) → None ≡ whole
  unfolding first_in
  first_nowhere whole place to past is =
      let e : to - place ≡ 0 = omega arith in
      sym (is ∙ ap (first_in at place) e)

  -- ---- back

  or_assoc : (a b c : Option A) → option_or (option_or a b) c ≡ option_or a (option_or b c)
  or_assoc None b c = refl
  or_assoc (Some x) b c = refl

  -- the search goes on by one place
  pub last_more : (from place : ℕ) → from ≤ place → last_in at from (place + 1 - from) ≡ option_or (at place) (last_in at from (place - from))
  last_more from place le =
      let e : place + 1 - from ≡ suc (place - from) = omega (arith, le) in
      let f : from + (place - from) ≡ place = omega (arith, le) in
      ap (last_in at from) e ∙ ap (λ k. option_or (at k) (last_in at from (place - from))) f

  -- the last of two stretches is the second's, or else the first's
  two_stretches : (from count more : ℕ) → last_in at from (count + more) ≡ option_or (last_in at (from + count) more) (last_in at from count)
  two_stretches from count zero = ap (last_in at from) (let e : count + 0 ≡ count = omega arith in e)
  two_stretches from count (suc more) =
      let e : count + suc more ≡ suc (count + more) = omega arith in
      let f : from + (count + more) ≡ from + count + more = omega arith in
      ap (last_in at from) e
      ∙ ap (λ place. option_or (at place) (last_in at from (count + more))) f
      ∙ ap (λ o. option_or (at (from + count + more)) o) (two_stretches from count more)
      ∙ sym (or_assoc (at (from + count + more)) (last_in at (from + count) more) (last_in at from count))

  pub last_split : (from middle to : ℕ) → from ≤ middle → middle ≤ to → last_in at from (to - from) ≡ option_or (last_in at middle (to - middle)) (last_in at from (middle - from))
  last_split from middle to le me =
      let e : to - from ≡ middle - from + (to - middle) = omega arith in
      let f : from + (middle - from) ≡ middle = omega arith in
      ap (last_in at from) e ∙ two_stretches from (middle - from) (to - middle) ∙ ap (λ place. option_or (last_in at place (to - middle)) (last_in at from (middle - from))) f

  -- of what is still to be looked at, the last stretch has one, or it is passed
  pub stretch_here : (whole : Option A) (from start end : ℕ) (o : Option A) → from ≤ start → start ≤ end → whole ≡ last_in at from (end - from) → o ≡ last_in at start (end - start) → is_some o ≡ true → o ≡ whole
  stretch_here whole from start end o le me is here found =
      sym (or_some o _ found) ∙ sym (is ∙ last_split from start end le me ∙ ap (λ o. option_or o (last_in at from (start - from))) (sym here))

  pub stretch_passed : (whole : Option A) (from start end : ℕ) (o : Option A) → from ≤ start → start ≤ end → whole ≡ last_in at from (end - from) → o ≡ last_in at start (end - start) → o ≡ None → whole ≡ last_in at from (start - from)
  stretch_passed whole from start end o le me is here none =
      is ∙ last_split from start end le me ∙ ap (λ o. option_or o (last_in at from (start - from))) (sym here ∙ none)
