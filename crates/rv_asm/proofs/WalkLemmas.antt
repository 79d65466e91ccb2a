-- The walk over labels from the last one on finds the next address of each.
use Rattle.std.proofs.Common.{◌≡◌, ℕ, ◌-◌, ◌<◌, ◌≤◌, Bool, true, false, List, [], ◌∷◌, ◌++◌, length, drop, refl, ap, sym, ◌∙◌, arith, zero, suc, lit≤}
use Rattle.std.proofs.Common.{get_or, reverse}
use Rattle.std.proofs.Math.Seq.{drop-cons}
use Rattle.std.proofs.lemmas.List.{reverse-append}
use Rattle.rv_elf.specs.Contents.{Named}
use Rattle.std.specs.Prelude.{nat_lt, min, ◌&&◌, if◌then◌else◌}
use Rattle.std.proofs.lemmas.Bool.Decides.{nat_tests}
use Rattle.rv_asm.specs.Assembled.{Ends, end_in, is_same, next_address, kind_in, symbol_of, symbols_of}
use Rattle.rv_asm.specs.internal.Walks.{least_address, IsAscending, at_label, walk_in, walked, walked_in, IsWalk, AreWalks}
use Rattle.rv_asm.specs.declared.passes.place.Label.{Label}
use Rattle.rv_asm.specs.declared.passes.symbols.Walk.{Walk}
use Rattle.rv_asm.specs.declared.passes.symbols.Walks.{Walks}
use Rattle.rv_asm.specs.declared.statement.Section.{Section}
use Rattle.rv_asm.specs.declared.statement.Section.TheVariants.{Text, Data}

pub kind_most : (s : Section) → kind_in s ≤ 2
kind_most Text = lit≤ tt
kind_most Data = lit≤ tt

pub least-cons : (s : Section) (end : ℕ) (label : Label) (labels : List Label) (same : Bool) → is_same s label.spot.section ≡ same → least_address s end (label ∷ labels) ≡ (if same then min label.spot.address (least_address s end labels) else least_address s end labels)
unfolding least_address
least-cons s end label labels same is = rw is refl

pub next-cons : (s : Section) (address end : ℕ) (label : Label) (labels : List Label) (same above : Bool) → is_same s label.spot.section ≡ same → nat_lt address label.spot.address ≡ above → next_address s address end (label ∷ labels) ≡ (if same && above then min label.spot.address (next_address s address end labels) else next_address s address end labels)
unfolding next_address
next-cons s address end label labels same above is is_above = rw (is, is_above) refl

pub least-end : (s : Section) (end : ℕ) (labels : List Label) → least_address s end labels ≤ end
unfolding least_address
least-end s end [] = omega arith
least-end s end (label ∷ labels) = at (is_same s label.spot.section) (least-end s end labels) where
  at : (same : Bool) → least_address s end labels ≤ end → (if same then min label.spot.address (least_address s end labels) else least_address s end labels) ≤ end
  at true rest = omega arith
  at false rest = rest

pub next-above : (s : Section) (address end : ℕ) (labels : List Label) → address ≤ end → address ≤ next_address s address end labels
unfolding next_address
next-above s address end [] below = below
next-above s address end (label ∷ labels) below = at (is_same s label.spot.section) (nat_lt address label.spot.address) refl (next-above s address end labels below) where
  at : (same above : Bool) → nat_lt address label.spot.address ≡ above → address ≤ next_address s address end labels → address ≤ (if same && above then min label.spot.address (next_address s address end labels) else next_address s address end labels)
  at true true is rest = let less : address < label.spot.address = grind (arith, nat_tests) in omega arith
  at true false is rest = rest
  at false true is rest = rest
  at false false is rest = rest

-- an address below all labels is followed by the least of them
next-least : (s : Section) (address end : ℕ) (labels : List Label) → address < least_address s end labels → next_address s address end labels ≡ least_address s end labels
unfolding next_address least_address
next-least s address end [] below = refl
next-least s address end (label ∷ labels) below = at (is_same s label.spot.section) refl (nat_lt address label.spot.address) refl (next-least s address end labels) where
  at : (same : Bool) → is_same s label.spot.section ≡ same → (above : Bool) → nat_lt address label.spot.address ≡ above → (address < least_address s end labels → next_address s address end labels ≡ least_address s end labels) → (if same && above then min label.spot.address (next_address s address end labels) else next_address s address end labels) ≡ (if same then min label.spot.address (least_address s end labels) else least_address s end labels)
  at true is true lies rest =
      let here : address < min label.spot.address (least_address s end labels) = rw (sym (least-cons s end label labels true is)) below in
      let rest_below : address < least_address s end labels = omega arith in
      ap (λ n. min label.spot.address n) (rest rest_below)
  at true is false lies rest =
      let here : address < min label.spot.address (least_address s end labels) = rw (sym (least-cons s end label labels true is)) below in
      let not_below : label.spot.address ≤ address = grind (arith, nat_tests) in
      absurd (omega arith)
  at false is true lies rest = rest (rw (sym (least-cons s end label labels false is)) below)
  at false is false lies rest = rest (rw (sym (least-cons s end label labels false is)) below)

pub walks-none : (text_end data_end : ℕ) → AreWalks (record { text = text_end; datas = data_end }) [] (record { text = record { next = text_end; after = text_end }; writable = record { next = data_end; after = data_end } })
unfolding next_address least_address
walks-none text_end data_end = record { each = each } where
  each : (s : Section) → IsWalk s (end_in (record { text = text_end; datas = data_end }) s) [] (walk_in s (record { text = record { next = text_end; after = text_end }; writable = record { next = data_end; after = data_end } }))
  each Text = record { next_is = refl; after_is = refl }
  each Data = record { next_is = refl; after_is = refl }

-- a label of another section
walk-other : (s : Section) (end : ℕ) (label : Label) (labels : List Label) (walk : Walk) → is_same s label.spot.section ≡ false → IsWalk s end labels walk → IsWalk s end (label ∷ labels) walk
walk-other s end label labels walk other is = record {
  next_is = is.next_is ∙ sym (least-cons s end label labels false other);
  after_is = is.after_is ∙ sym (other_next (nat_lt walk.next label.spot.address) refl);
} where
  other_next : (above : Bool) → nat_lt walk.next label.spot.address ≡ above → next_address s walk.next end (label ∷ labels) ≡ next_address s walk.next end labels
  other_next true e = next-cons s walk.next end label labels false true other e
  other_next false e = next-cons s walk.next end label labels false false other e

-- the label itself isn't above itself
not_above : (s : Section) (address end : ℕ) (label : Label) (labels : List Label) → address ≡ label.spot.address → next_address s address end (label ∷ labels) ≡ next_address s address end labels
not_above s address end label labels is = at (is_same s label.spot.section) refl where
  no : nat_lt address label.spot.address ≡ false
  no = grind (arith, nat_tests)

  at : (same : Bool) → is_same s label.spot.section ≡ same → next_address s address end (label ∷ labels) ≡ next_address s address end labels
  at true e = next-cons s address end label labels true false e no
  at false e = next-cons s address end label labels false false e no

-- a label of the section
walk-same : (s : Section) (end : ℕ) (label : Label) (labels : List Label) (walk : Walk) → is_same s label.spot.section ≡ true → label.spot.address ≤ least_address s end labels → IsWalk s end labels walk → IsWalk s end (label ∷ labels) (at_label walk label.spot.address) × ((at_label walk label.spot.address).after ≡ next_address s label.spot.address end labels)
walk-same s end label labels walk same low is = at (nat_lt label.spot.address walk.next) refl where
  least_is : least_address s end (label ∷ labels) ≡ label.spot.address
  least_is = least-cons s end label labels true same ∙ (omega arith)

  at : (below : Bool) → nat_lt label.spot.address walk.next ≡ below → IsWalk s end (label ∷ labels) (if below then record { next = label.spot.address; after = walk.next } else walk) × ((if below then record { next = label.spot.address; after = walk.next } else walk).after ≡ next_address s label.spot.address end labels)
  at true e =
      let less : label.spot.address < walk.next = grind (arith, nat_tests) in
      let below : label.spot.address < least_address s end labels = omega (arith, is.next_is) in
      let after : walk.next ≡ next_address s label.spot.address end labels = is.next_is ∙ sym (next-least s label.spot.address end labels below) in
      (record { next_is = sym least_is; after_is = after ∙ sym (not_above s label.spot.address end label labels refl) }, after)
  at false e =
      let not_less : walk.next ≤ label.spot.address = grind (arith, nat_tests) in
      let here : walk.next ≡ label.spot.address = omega (arith, is.next_is) in (
        record { next_is = here ∙ sym least_is; after_is = is.after_is ∙ sym (not_above s walk.next end label labels here) },
        is.after_is ∙ ap (λ a. next_address s a end labels) here,
      )

-- one label more, and where it runs up to
pub walks-more : (ends : Ends) (label : Label) (labels : List Label) (walks : Walks) → label.spot.address ≤ least_address label.spot.section (end_in ends label.spot.section) labels → AreWalks ends labels walks → AreWalks ends (label ∷ labels) (walked walks label.spot) × ((walk_in label.spot.section (walked walks label.spot)).after ≡ next_address label.spot.section label.spot.address (end_in ends label.spot.section) labels)
walks-more ends label labels walks low are = at label.spot.section refl low where
  at : (t : Section) → label.spot.section ≡ t → label.spot.address ≤ least_address t (end_in ends t) labels → AreWalks ends (label ∷ labels) (walked_in t label.spot.address walks) × ((walk_in t (walked_in t label.spot.address walks)).after ≡ next_address t label.spot.address (end_in ends t) labels)
  at Text e lies =
      let both = walk-same Text ends.text label labels walks.text (ap (is_same Text) e) lies (are.each Text) in
      (record { each = λ s. each both.0 (walk-other Data ends.datas label labels walks.writable (ap (is_same Data) e) (are.each Data)) s }, both.1) where
        each : IsWalk Text ends.text (label ∷ labels) (walk_in Text (walked_in Text label.spot.address walks)) → IsWalk Data ends.datas (label ∷ labels) (walk_in Data (walked_in Text label.spot.address walks)) → (s : Section) → IsWalk s (end_in ends s) (label ∷ labels) (walk_in s (walked_in Text label.spot.address walks))
        each one two Text = one
        each one two Data = two
  at Data e lies =
      let both = walk-same Data ends.datas label labels walks.writable (ap (is_same Data) e) lies (are.each Data) in
      (record { each = λ s. each (walk-other Text ends.text label labels walks.text (ap (is_same Text) e) (are.each Text)) both.0 s }, both.1) where
        each : IsWalk Text ends.text (label ∷ labels) (walk_in Text (walked_in Data label.spot.address walks)) → IsWalk Data ends.datas (label ∷ labels) (walk_in Data (walked_in Data label.spot.address walks)) → (s : Section) → IsWalk s (end_in ends s) (label ∷ labels) (walk_in s (walked_in Data label.spot.address walks))
        each one two Text = one
        each one two Data = two

pub first_low : (ends : Ends) (label : Label) (labels : List Label) → IsAscending ends (label ∷ labels) → label.spot.address ≤ least_address label.spot.section (end_in ends label.spot.section) labels
unfolding IsAscending
first_low ends label labels is = is.0

pub ascending-drop : (ends : Ends) (labels : List Label) (n : ℕ) → IsAscending ends labels → IsAscending ends (drop n labels)
unfolding IsAscending
ascending-drop ends labels zero is = is
ascending-drop ends [] (suc n) is = is
ascending-drop ends (label ∷ labels) (suc n) is = ascending-drop ends labels n is.1

-- the labels from the one before the place on
last-drop : (labels : List Label) (left : ℕ) (label : Label) → 0 < left → left ≤ length labels → label ≡ get_or labels (left - 1) label → drop (left - 1) labels ≡ label ∷ drop left labels
last-drop labels left label some within is =
    let same : suc (left - 1) ≡ left = omega arith in
    let below : left - 1 < length labels = omega arith in
    drop-cons labels (left - 1) label below ∙ ap (λ x. x ∷ drop (suc (left - 1)) labels) (sym is) ∙ ap (λ n. label ∷ drop n labels) same

-- what one turn of the walk gives
pub record Turn (ends : Ends) (labels : List Label) (left : ℕ) (label : Label) (walks : Walks) : Type 0 where
  pub rest : drop (left - 1) labels ≡ label ∷ drop left labels
  pub are : AreWalks ends (drop (left - 1) labels) walks
  pub after : (walk_in label.spot.section walks).after ≡ next_address label.spot.section label.spot.address (end_in ends label.spot.section) (drop left labels)
  pub above : label.spot.address ≤ (walk_in label.spot.section walks).after

pub one_turn : (ends : Ends) (labels : List Label) (left : ℕ) (label : Label) (before walks : Walks) → 0 < left → left ≤ length labels → label ≡ get_or labels (left - 1) label → IsAscending ends labels → AreWalks ends (drop left labels) before → walks ≡ walked before label.spot → Turn ends labels left label walks
one_turn ends labels left label before walks some within is ascending are stepped = record {
  rest = rest;
  are = rw (rest, stepped) more.0;
  after = after;
  above = rw after (next-above label.spot.section label.spot.address (end_in ends label.spot.section) (drop left labels) below);
} where
  rest : drop (left - 1) labels ≡ label ∷ drop left labels
  rest = last-drop labels left label some within is

  here : label.spot.address ≤ least_address label.spot.section (end_in ends label.spot.section) (drop left labels)
  here = first_low ends label (drop left labels) (rw (← rest) (ascending-drop ends labels (left - 1) ascending))

  more : AreWalks ends (label ∷ drop left labels) (walked before label.spot) × ((walk_in label.spot.section (walked before label.spot)).after ≡ next_address label.spot.section label.spot.address (end_in ends label.spot.section) (drop left labels))
  more = walks-more ends label (drop left labels) before here are

  after : (walk_in label.spot.section walks).after ≡ next_address label.spot.section label.spot.address (end_in ends label.spot.section) (drop left labels)
  after = rw stepped more.1

  below : label.spot.address ≤ end_in ends label.spot.section
  below = omega (arith, here, least-end label.spot.section (end_in ends label.spot.section) (drop left labels))

-- one symbol more
pub one_symbol : (ends : Ends) (labels : List Label) (left : ℕ) (label : Label) (items after : List Named) (symbol : Named) (end : ℕ) → drop (left - 1) labels ≡ label ∷ drop left labels → end ≡ next_address label.spot.section label.spot.address (end_in ends label.spot.section) (drop left labels) → symbol ≡ record { name = label.name; value = label.spot.address; size = end - label.spot.address; kind = kind_in label.spot.section } → items ≡ reverse (symbols_of ends (drop left labels)) → after ≡ items ++ symbol ∷ [] → after ≡ reverse (symbols_of ends (drop (left - 1) labels))
unfolding symbols_of
one_symbol ends labels left label items after symbol end rest runs is so_far pushed =
    pushed ∙ ap (λ xs. xs ++ symbol ∷ []) so_far
    ∙ ap (λ x. reverse (symbols_of ends (drop left labels)) ++ x ∷ []) (is ∙ ap (λ e. record { name = label.name; value = label.spot.address; size = e - label.spot.address; kind = kind_in label.spot.section }) runs)
    ∙ sym (reverse-append (symbol_of ends (drop left labels) label ∷ []) (symbols_of ends (drop left labels)))
    ∙ sym (ap (λ ls. reverse (symbols_of ends ls)) rest)
