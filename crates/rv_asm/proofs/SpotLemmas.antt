-- Where the first label of each name stands, with one label more.
use Rattle.std.proofs.Common.{◌≡◌, ℕ, Bool, true, false, List, [], ◌∷◌, ◌++◌, Option, Some, None, refl, ap, sym, ◌∙◌}
use Rattle.std.specs.Prelude.{is_some, cond}
use Rattle.std.specs.Option.{option_map, option_or}
use Rattle.std.specs.Ordering.{nat_cmp}
use Rattle.std.specs.Str.{bytes_eq}
use Rattle.std.specs.Cmp.Lexicographic.{slice_cmp}
use Rattle.std.specs.BTreeMap.{BTreeMap, get_by, UpdatesBy}
use Rattle.std.specs.List.{find}
use Rattle.std.proofs.lemmas.Slice.Eq.{bytes_eq-Decides}
use Rattle.std.proofs.lemmas.Map.Text.{btree_map_updates_str}
use denote.Ref.{Bor}
use Rattle.rv_asm.specs.declared.passes.place.Label.{Label}
use Rattle.rv_asm.specs.declared.passes.place.Spot.{Spot}
use Rattle.rv_asm.specs.Layout.{spot_of}
use Rattle.rv_asm.specs.internal.Spots.{FindsFirst}

-- where two texts differ they differ the other way round too
flipped : (a b : List ℕ) → bytes_eq a b ≡ false → bytes_eq b a ≡ false
flipped a b differ = at (bytes_eq b a) refl where
  at : (t : Bool) → bytes_eq b a ≡ t → bytes_eq b a ≡ false
  at false e = e
  at true e =
      let same : bytes_eq a b ≡ true = (bytes_eq-Decides a b).1 (sym ((bytes_eq-Decides b a).0 e)) in
      absurd (cc (same, differ))

-- the first of one label more
with_one_more : (labels : List Label) (label : Label) (name : List ℕ) → spot_of (labels ++ label ∷ []) name ≡ option_or (spot_of labels name) (cond (bytes_eq name label.name) (Some label.spot) None)
unfolding spot_of
with_one_more [] label name = at (bytes_eq name label.name) where
  at : (t : Bool) → option_map (λ l. l.spot) (cond t (Some label) None) ≡ cond t (Some label.spot) None
  at true = refl
  at false = refl
with_one_more (l ∷ labels) label name = at (bytes_eq name l.name) (with_one_more labels label name) where
  at : (t : Bool) → option_map (λ m. m.spot) (find (λ m. bytes_eq name m.name) (labels ++ label ∷ [])) ≡ option_or (option_map (λ m. m.spot) (find (λ m. bytes_eq name m.name) labels)) (cond (bytes_eq name label.name) (Some label.spot) None) → option_map (λ m. m.spot) (cond t (Some l) (find (λ m. bytes_eq name m.name) (labels ++ label ∷ []))) ≡ option_or (option_map (λ m. m.spot) (cond t (Some l) (find (λ m. bytes_eq name m.name) labels))) (cond (bytes_eq name label.name) (Some label.spot) None)
  at true rest = refl
  at false rest = rest

or_none : {A : Type 0} (o : Option A) → option_or o None ≡ o
or_none None = refl
or_none (Some x) = refl

some_or : {A : Type 0} (o p : Option A) → is_some o ≡ true → option_or o p ≡ o
some_or None p some = absurd (cc)
some_or (Some x) p some = refl

not_some : {A : Type 0} (o : Option A) → is_some o ≡ false → o ≡ None
not_some None none = refl
not_some (Some x) none = absurd (cc)

-- a label of another name
other_label : (labels : List Label) (label : Label) (name : List ℕ) → bytes_eq label.name name ≡ false → spot_of (labels ++ label ∷ []) name ≡ spot_of labels name
other_label labels label name differ =
    with_one_more labels label name ∙ rw (flipped label.name name differ) (or_none (spot_of labels name))

-- a later label of a name that is there
pub finds-later : (first : BTreeMap (Bor (List ℕ)) Spot) (labels : List Label) (label : Label) → is_some (get_by (λ key. slice_cmp nat_cmp label.name key.now) first) ≡ true → FindsFirst first labels → FindsFirst first (labels ++ label ∷ [])
finds-later first labels label there finds = record { finds = λ name. finds.finds name ∙ sym (same name (bytes_eq label.name name) refl) } where
  same : (name : List ℕ) (t : Bool) → bytes_eq label.name name ≡ t → spot_of (labels ++ label ∷ []) name ≡ spot_of labels name
  same name false differ = other_label labels label name differ
  same name true is =
      let spotted : is_some (spot_of labels label.name) ≡ true = ap is_some (sym (finds.finds label.name)) ∙ there in
      let here : label.name ≡ name = (bytes_eq-Decides label.name name).0 is in
      let at_name : is_some (spot_of labels name) ≡ true = rw (← here) spotted in
      with_one_more labels label name ∙ some_or (spot_of labels name) _ at_name

-- the first label of its name
pub finds-first : (first after : BTreeMap (Bor (List ℕ)) Spot) (labels : List Label) (label : Label) → is_some (get_by (λ key. slice_cmp nat_cmp label.name key.now) first) ≡ false → UpdatesBy (λ x y. slice_cmp nat_cmp x.now y.now) (λ key. slice_cmp nat_cmp label.name key.now) first after (Some label.spot) → FindsFirst first labels → FindsFirst after (labels ++ label ∷ [])
finds-first first after labels label absent updates finds = record { finds = λ name. btree_map_updates_str label.name first after (Some label.spot) updates name ∙ at name (bytes_eq label.name name) refl } where
  at : (name : List ℕ) (t : Bool) → bytes_eq label.name name ≡ t → cond t (Some label.spot) (get_by (λ key. slice_cmp nat_cmp name key.now) first) ≡ spot_of (labels ++ label ∷ []) name
  at name false differ = finds.finds name ∙ sym (other_label labels label name differ)
  at name true is =
      let none = not_some (spot_of labels label.name) (ap is_some (sym (finds.finds label.name)) ∙ absent) in
      let here : label.name ≡ name = (bytes_eq-Decides label.name name).0 is in
      let none_here : spot_of labels name ≡ None = rw (← here) none in
      let found : bytes_eq name label.name ≡ true = (bytes_eq-Decides name label.name).1 (sym here) in
      let first_is : option_or (spot_of labels name) (cond (bytes_eq name label.name) (Some label.spot) None) ≡ Some label.spot = rw (none_here, found) refl in
      sym (with_one_more labels label name ∙ first_is)
