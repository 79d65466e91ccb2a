-- What is shown of the orders of races, while their trials are made again.
use Rattle.std.proofs.Common.{◌≡◌, ℕ, ◌<◌, get_or, All, List, length, map, None, Some, option_map, refl, sym, ap, subst, ◌∙◌}
use Rattle.std.specs.Map.{keys_of}
use Rattle.std.specs.Prelude.{Vec, slice_get, slice_set}
use Rattle.std.specs.declared.alloc.Global.{Global}
use Rattle.std.proofs.lemmas.List.{length-map}
use Rattle.std.proofs.lemmas.List.Elements.{All-get_or, All-map, All-set}
use Rattle.std.proofs.lemmas.Option.{get_or_from_slice_get, slice_get-get_or, slice_get-map, slice_get_within}
use Rattle.std.proofs.lemmas.Simd.{map-map}
use Rattle.std.proofs.Math.Seq.{map-set_same}
use Rattle.rv_campaign.specs.Pool as pool
use Rattle.rv_collide.specs.declared.collider.Finished.{Finished}
use Rattle.rv_elf.specs.Contents.{Contents}
use Rattle.rv_search.specs.Hunt.{Hunt}
use Rattle.rv_remade.specs.declared.orders.Again.{Again}
use Rattle.rv_remade.specs.declared.orders.PlacedTrial.{PlacedTrial}
use Rattle.rv_shown.specs.declared.shown.ShownOrder.{ShownOrder}
use Rattle.rv_remade.specs.declared.orders.WantedTrial.{WantedTrial}
use Rattle.rv_tables.specs.declared.orders.OrderRow.{OrderRow}
use Rattle.rv_tables.specs.declared.orders.TrialPlace.{TrialPlace}
use Rattle.rv_tables.specs.declared.row.RaceRow.{RaceRow}
use Rattle.rv_remade.specs.OrderShown.{AreOrdersShown, IsOrderShown, IsTrialIn, IsTrialShown}
use Rattle.rv_remade.specs.Shown.{IsRunOf, run_told}
use Rattle.rv_tables.specs.Keyed.{row_at}
use Rattle.rv_tables.specs.Orders.{first_of}
use Rattle.rv_remade.specs.internal.OrderShowing.{AreKnown, AreMade, AreOfRun, Full, IsOfPlace, IsPlaced, IsWanted, known_of}
use Rattle.rv_report.specs.Races.{same_key}
use Rattle.rv_report.specs.declared.key.Key.{Key}

same_some : {X : Type 0} (x y : X) → Some x ≡ Some y → x ≡ y
same_some x y h = cc

-- no trial is shown yet
pub none_yet : (hunt : Hunt) (tried : List (Key × OrderRow)) (rows : List (Key × RaceRow)) (shown : List ShownOrder) → shown ≡ map (known_of tried) rows → AreOrdersShown hunt tried (keys_of rows) shown
none_yet hunt tried rows shown are = record {
  keys_are = ap (map (λ (one : ShownOrder). one.key)) are ∙ map-map (λ (one : ShownOrder). one.key) (known_of tried) rows;
  each = subst (All (IsOrderShown hunt tried)) (sym are) (All-map (IsOrderShown hunt tried) (known_of tried) rows (λ k d below. record { row_is = refl; made = tt }));
}

-- as many as there are races
pub orders_count : (hunt : Hunt) (tried : List (Key × OrderRow)) (keys : List Key) (shown : List ShownOrder) → AreOrdersShown hunt tried keys shown → length shown ≡ length keys
orders_count hunt tried keys shown are = sym (length-map shown (λ (one : ShownOrder). one.key)) ∙ ap length are.keys_are

-- the key at a place of those that are shown
key_at : (full : Full) (shown : List ShownOrder) (place : ℕ) (one : ShownOrder) → AreKnown full shown → slice_get shown place ≡ Some one → slice_get full.keys place ≡ Some one.key
key_at full shown place one known there =
    ap (λ (keys : List Key). slice_get keys place) (sym known.keys_are) ∙ slice_get-map (λ (o : ShownOrder). o.key) shown place ∙ ap (option_map (λ (o : ShownOrder). o.key)) there

-- a trial is put to its race
pub put_known : (full : Full) (shown : List ShownOrder) (trial : PlacedTrial) (one : ShownOrder) → slice_get shown trial.place ≡ Some one → IsOfPlace full trial → AreKnown full shown
    → AreKnown full (slice_set shown trial.place (record one { made = Some trial.made }))
put_known full shown trial one there of known =
    let below = slice_get_within shown trial.place one there in
    let is_one = get_or_from_slice_get shown trial.place one one there in
    let was : IsOrderShown full.hunt full.tried one =
    subst (IsOrderShown full.hunt full.tried) is_one (All-get_or (IsOrderShown full.hunt full.tried) shown trial.place one below known.each)
    in
    let key : of.key ≡ one.key = same_some of.key one.key (sym of.there ∙ key_at full shown trial.place one known there) in
    record {
      keys_are = map-set_same (λ (o : ShownOrder). o.key) shown trial.place (record one { made = Some trial.made }) one (ap (λ (o : ShownOrder). o.key) (sym is_one)) ∙ known.keys_are;
      each = All-set (IsOrderShown full.hunt full.tried) shown trial.place (record one { made = Some trial.made }) (record {
        row_is = was.row_is;
        made = (of.at, ap first_of was.row_is ∙ rw (← key) of.at_is, rw (← key) of.is_shown);
      }) known.each;
    }

-- what workers made is of the races at their places
placed_is : (full : Full) (again : Again) (trial : PlacedTrial) → full.hunt ≡ again.hunt.now → again.symbols.now.image ≡ again.hunt.now.source.image → All (IsWanted full.tried full.keys) again.wanted.now → IsPlaced again trial → IsOfPlace full trial
placed_is full again trial hunt image wanted is =
    let below = slice_get_within again.wanted.now is.number is.wanted is.there in
    let is_one = get_or_from_slice_get again.wanted.now is.number is.wanted is.wanted is.there in
    let was : IsWanted full.tried full.keys is.wanted =
    subst (IsWanted full.tried full.keys) is_one (All-get_or (IsWanted full.tried full.keys) again.wanted.now is.number is.wanted below wanted)
    in
    record {
      key = is.wanted.key;
      there = ap (slice_get full.keys) is.place_is ∙ was.0;
      at = is.wanted.at;
      at_is = was.1;
      is_shown = subst (λ (h : Hunt). IsTrialShown h is.wanted.key is.wanted.at trial.made) (sym hunt) (is.is_shown image);
    }

pub all_placed : (full : Full) (again : Again) (made : List (Vec PlacedTrial Global)) → full.hunt ≡ again.hunt.now → again.symbols.now.image ≡ again.hunt.now.source.image → All (IsWanted full.tried full.keys) again.wanted.now → pool.AreMade (λ _ (one : Vec PlacedTrial Global). AreMade again one.items) again.count made → All (AreOfRun full) made
all_placed full again made hunt image wanted are = λ k d below.
    let run = are.each k (get_or made k d) (slice_get-get_or made k d below) in
    λ j e within. placed_is full again (get_or (get_or made k d).items j e) hunt image wanted (run j e within)

-- the key at a place of rows
pub wanted_is : (tried : List (Key × OrderRow)) (rows : List (Key × RaceRow)) (place : ℕ) (row : Key × RaceRow) (at : TrialPlace) → slice_get rows place ≡ Some row → first_of (row_at same_key tried row.0) ≡ Some at
    → IsWanted tried (keys_of rows) (record { place = place; key = row.0; at = at })
wanted_is tried rows place row at there is = (slice_get-map (λ (r : Key × RaceRow). r.0) rows place ∙ ap (option_map (λ (r : Key × RaceRow). r.0)) there, is)

-- a trial that was made in a run is of one of the races
pub is_placed : (again : Again) (of : ℕ) (left : Finished) (number : ℕ) (wanted : WantedTrial) (trial : PlacedTrial) → IsRunOf again.hunt.now of left → wanted.at.run ≡ of → slice_get again.wanted.now number ≡ Some wanted → trial.place ≡ wanted.place
    → IsTrialIn (run_told again.symbols.now.image left) again.hunt.now.ranges wanted.key wanted.at.number trial.made → IsPlaced again trial
is_placed again of left number wanted trial is_run names there place is = record {
  number = number;
  wanted = wanted;
  there = there;
  place_is = place;
  is_shown = λ image. record {
    run = left;
    is_run = subst (λ (n : ℕ). IsRunOf again.hunt.now n left) (sym names) is_run;
    is_trial = subst (λ (c : Contents). IsTrialIn (run_told c left) again.hunt.now.ranges wanted.key wanted.at.number trial.made) image is;
  };
}
