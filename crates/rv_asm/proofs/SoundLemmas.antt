-- Lines without a fault give the parts of an image.
use Rattle.std.proofs.Common.{◌≡◌, ℕ, ◌+◌, ◌%◌, ◌<◌, ◌≤◌, Bool, true, false, List, [], ◌∷◌, ◌++◌, length, Option, Some, None, Ok, refl, ap, sym, ◌∙◌, arith, length-append}
use Rattle.std.specs.Prelude.{min, nat_lt, if◌then◌else◌, codes}
use Rattle.std.specs.List.{find, cons_option}
use Rattle.std.specs.Option.{option_map}
use Rattle.std.specs.Str.{bytes_eq}
use Rattle.std.proofs.lemmas.Bool.Decides.{nat_tests}
use Rattle.rv_asm.specs.Layout.{placed, line_at, next_place, labels_of, label_at, spot_of, start_of, limit_of, bytes_before, address_of, label_size, first_place, lines_placed, source_lines, spot_at}
use Rattle.rv_asm.specs.Size.{size_of}
use Rattle.rv_asm.specs.Assembled.{Ends, end_in, ends_of, entry_of, entry_at, entry_in, is_same, first_fault, section_bytes, line_bytes, if_in}
use Rattle.rv_asm.specs.internal.Walks.{least_address, IsAscending}
use Rattle.rv_asm.specs.internal.Sound.{IsSound, labels_size}
use Rattle.rv_asm.proofs.SectionLemmas.{fault-cons, bytes-cons}
use Rattle.rv_asm.proofs.PlacedLemmas.{line_at-aligned}
use Rattle.rv_asm.proofs.StepLemmas.{IsNext, fine, next_of, none_parts}
use Rattle.rv_asm.specs.declared.passes.place.Label.{Label}
use Rattle.rv_asm.specs.declared.passes.place.Place.{Place}
use Rattle.rv_asm.specs.declared.passes.place.PlacedLine.{PlacedLine}
use Rattle.rv_asm.specs.declared.passes.place.Spot.{Spot}
use Rattle.rv_asm.specs.declared.statement.Section.{Section}
use Rattle.rv_asm.specs.declared.statement.Section.TheVariants.{Text, Data}
use Rattle.rv_asm.specs.declared.statement.Statement.{Statement}

-- an address in `.text` is that of a word
abbrev IsWordAt : Section → ℕ → Type 0
IsWordAt Text address = (address % 4 ≡ 0) × (0x1_0000 ≤ address)
IsWordAt Data address = Unit {0}

unfoldable AreWords : List Label → Type 0
AreWords [] = Unit {0}
AreWords (label ∷ labels) = IsWordAt label.spot.section label.spot.address × AreWords labels

-- how far a section reaches once these lines have followed the place
abbrev reach : List Label → Section → Place → List PlacedLine → ℕ
reach known s place lines = bytes_before s place + length (section_bytes s known lines)

record IsLaid (known : List Label) (ends : Ends) (place : Place) (lines : List PlacedLine) : Type 0 where
  pub limits : (s : Section) → reach known s place lines ≤ limit_of s
  pub rising : (s : Section) → start_of s + bytes_before s place ≤ least_address s (end_in ends s) (labels_of lines)
  pub ascending : IsAscending ends (labels_of lines)
  pub names : labels_size (labels_of lines) ≤ place.label_room
  pub words : AreWords (labels_of lines)
  pub whole : reach known Text place lines % 4 ≡ 0

laid_nil : (known : List Label) (ends : Ends) (place : Place) → ((s : Section) → bytes_before s place ≤ limit_of s) → place.text_size % 4 ≡ 0 → ((s : Section) → end_in ends s ≡ start_of s + reach known s place []) → IsLaid known ends place []
unfolding section_bytes least_address IsAscending labels_size AreWords labels_of
laid_nil known ends place limits whole total = record {
  limits = λ s. omega (arith, limits s);
  rising = λ s. omega (arith, total s);
  ascending = tt;
  names = omega arith;
  words = tt;
  whole = rw (plain) whole;
} where
  plain : place.text_size + 0 ≡ place.text_size
  plain = omega arith

-- a label in front of those of later lines
below_label : (s t : Section) (end a low : ℕ) (labels : List Label) → start_of s + low ≤ least_address s end labels → (is_same s t ≡ true → start_of s + low ≤ a) → start_of s + low ≤ (if is_same s t then min a (least_address s end labels) else least_address s end labels)
below_label s t end a low labels rest here = at (is_same s t) here where
  at : (same : Bool) → (same ≡ true → start_of s + low ≤ a) → start_of s + low ≤ (if same then min a (least_address s end labels) else least_address s end labels)
  at true h = let one : start_of s + low ≤ a = h refl in omega arith
  at false h = rest

same_address : (s : Section) (place : Place) → is_same s place.section ≡ true → start_of s + bytes_before s place ≤ address_of place
same_address s place same = at s place.section refl same where
  at : (s t : Section) → place.section ≡ t → is_same s t ≡ true → start_of s + bytes_before s place ≤ start_of place.section + bytes_before place.section place
  at Text Text is same = rw is (omega arith)
  at Data Data is same = rw is (omega arith)
  at Text Data is same = absurd (cc)
  at Data Text is same = absurd (cc)

is_word : (place : Place) → place.text_size % 4 ≡ 0 → IsWordAt place.section (address_of place)
is_word place whole = at place.section where
  at : (t : Section) → IsWordAt t (start_of t + bytes_before t place)
  at Text = (omega arith, omega arith)
  at Data = tt

-- the labels with one line more
record LabelsLaid (ends : Ends) (place : Place) (labels : List Label) : Type 0 where
  pub rising : (s : Section) → start_of s + bytes_before s place ≤ least_address s (end_in ends s) labels
  pub ascending : IsAscending ends labels
  pub names : labels_size labels ≤ place.label_room
  pub words : AreWords labels

label_before : (ends : Ends) (p : PlacedLine) (next : Place) (bytes : List ℕ) (labels : List Label) → p.place.text_size % 4 ≡ 0 → IsNext p bytes next → LabelsLaid ends next labels → LabelsLaid ends p.place (cons_option (label_at p) labels)
unfolding IsAscending labels_size AreWords least_address
label_before ends p next bytes labels whole is laid = at p.line.label refl where
  low : (s : Section) → start_of s + bytes_before s p.place ≤ least_address s (end_in ends s) labels
  low s = omega (arith, laid.rising s, is.sizes s)

  at : (o : Option (List ℕ)) → p.line.label ≡ o → LabelsLaid ends p.place (cons_option (option_map (λ name. record { name = name; spot = spot_at p.place }) o) labels)
  at None none =
      let room : next.label_room + 0 ≡ p.place.label_room = ap (λ l. next.label_room + label_size l) (sym none) ∙ is.room in
      record { rising = low; ascending = laid.ascending; names = omega (arith, laid.names); words = laid.words }
  at (Some name) some =
      let room : next.label_room + (17 + length name) ≡ p.place.label_room = ap (λ l. next.label_room + label_size l) (sym some) ∙ is.room in
      record {
        rising = λ s. below_label s p.place.section (end_in ends s) (address_of p.place) (bytes_before s p.place) labels (low s) (same_address s p.place);
        ascending = (low p.place.section, laid.ascending);
        names = omega (arith, laid.names);
        words = (is_word p.place whole, laid.words);
      }

-- one line more in front
with_bytes : (known : List Label) (ends : Ends) (p : PlacedLine) (rest : List PlacedLine) (bytes : List ℕ) → line_bytes known p ≡ Ok bytes → IsNext p bytes (next_place p) → p.place.text_size % 4 ≡ 0 → ((s : Section) → end_in ends s ≡ start_of s + reach known s p.place (p ∷ rest)) → (((s : Section) → end_in ends s ≡ start_of s + reach known s (next_place p) rest) → IsLaid known ends (next_place p) rest) → IsLaid known ends p.place (p ∷ rest)
unfolding labels_of
with_bytes known ends p rest bytes are is whole total later = record {
  limits = λ s. omega (arith, reach_is s, after.limits s);
  rising = front.rising;
  ascending = front.ascending;
  names = front.names;
  words = front.words;
  whole = rw (← reach_is Text) after.whole;
} where
  reach_is : (s : Section) → reach known s (next_place p) rest ≡ reach known s p.place (p ∷ rest)
  reach_is s =
      let cut : length (section_bytes s known (p ∷ rest)) ≡ length (if_in s p.place.section (Ok bytes)) + length (section_bytes s known rest) =
      ap length (bytes-cons s known p rest ∙ ap (λ r. if_in s p.place.section r ++ section_bytes s known rest) are)
      ∙ length-append (if_in s p.place.section (Ok bytes)) (section_bytes s known rest) in
      omega (arith, is.sizes s, cut)

  after : IsLaid known ends (next_place p) rest
  after = later (λ s. total s ∙ ap (λ n. start_of s + n) (sym (reach_is s)))

  front : LabelsLaid ends p.place (cons_option (label_at p) (labels_of rest))
  front = label_before ends p (next_place p) bytes (labels_of rest) whole is (record { rising = after.rising; ascending = after.ascending; names = after.names; words = after.words })

one_more : (known : List Label) (ends : Ends) (p : PlacedLine) (rest : List PlacedLine) → ((s : Statement) → p.place.section ≡ Text → p.line.statement ≡ Ok (Some s) → size_of s % 4 ≡ 0) → first_fault known (p ∷ rest) ≡ None → ((s : Section) → bytes_before s p.place ≤ limit_of s) → p.place.text_size % 4 ≡ 0 → ((s : Section) → end_in ends s ≡ start_of s + reach known s p.place (p ∷ rest)) → (first_fault known rest ≡ None → ((s : Section) → bytes_before s (next_place p) ≤ limit_of s) → (next_place p).text_size % 4 ≡ 0 → ((s : Section) → end_in ends s ≡ start_of s + reach known s (next_place p) rest) → IsLaid known ends (next_place p) rest) → IsLaid known ends p.place (p ∷ rest)
one_more known ends p rest aligned none limits whole total later =
    let parts = none_parts (p.place.lines_before + 1) (line_bytes known p) (first_fault known rest) (sym (fault-cons known p rest) ∙ none) in
    let is = next_of known p parts.0 aligned (fine known p parts.0 parts.1) in
    with_bytes known ends p rest parts.0 parts.1 is whole total (later parts.2 (is.within limits) (is.words whole))

laid : (known : List Label) (ends : Ends) (texts : List (List ℕ)) (place : Place) → first_fault known (placed place texts) ≡ None → ((s : Section) → bytes_before s place ≤ limit_of s) → place.text_size % 4 ≡ 0 → ((s : Section) → end_in ends s ≡ start_of s + reach known s place (placed place texts)) → IsLaid known ends place (placed place texts)
unfolding placed line_at
laid known ends [] place none limits whole total = laid_nil known ends place limits whole total
laid known ends (text ∷ texts) place none limits whole total =
    one_more known ends (line_at place text) (placed (next_place (line_at place text)) texts) (line_at-aligned place text) none limits whole total (laid known ends texts (next_place (line_at place text)))

-- a label that is looked up is one of them
spot_word : (labels : List Label) (name : List ℕ) (spot : Spot) → AreWords labels → spot_of labels name ≡ Some spot → IsWordAt spot.section spot.address
unfolding spot_of AreWords
spot_word [] name spot words found = absurd (cc)
spot_word (label ∷ labels) name spot words found = at (bytes_eq name label.name) found (spot_word labels name spot words.1) where
  at : (t : Bool) → option_map (λ l. l.spot) (if t then Some label else find (λ l. bytes_eq name l.name) labels) ≡ Some spot → (option_map (λ l. l.spot) (find (λ l. bytes_eq name l.name) labels) ≡ Some spot → IsWordAt spot.section spot.address) → IsWordAt spot.section spot.address
  at true is later = let same : label.spot ≡ spot = cc in rw (← same) words.0
  at false is later = later is

record IsEntry (n entry : ℕ) : Type 0 where
  pub aligned : entry % 4 ≡ 0
  pub low : 0x1_0000 ≤ entry
  pub high : entry + 4 ≤ 0x1_0000 + n

first_word : (n : ℕ) → 1 ≤ n → n % 4 ≡ 0 → IsEntry n 0x1_0000
first_word n some whole = record { aligned = refl; low = omega arith; high = omega arith }

is_entry : (n : ℕ) (o : Option Spot) → 1 ≤ n → n % 4 ≡ 0 → ((spot : Spot) → o ≡ Some spot → IsWordAt spot.section spot.address) → IsEntry n (entry_at (0x1_0000 + n) o)
is_entry n None some whole words = first_word n some whole
is_entry n (Some spot) some whole words = at spot.section (words spot refl) where
  within : (t : Bool) → nat_lt spot.address (0x1_0000 + n) ≡ t → (spot.address % 4 ≡ 0) × (0x1_0000 ≤ spot.address) → IsEntry n (if t then spot.address else 0x1_0000)
  within true less word =
      let below : spot.address < 0x1_0000 + n = grind (arith, nat_tests) in
      record { aligned = word.0; low = word.1; high = omega arith }
  within false less word = first_word n some whole

  at : (s : Section) → IsWordAt s spot.address → IsEntry n (entry_in (0x1_0000 + n) s spot.address)
  at Text word = within (nat_lt spot.address (0x1_0000 + n)) refl word
  at Data word = first_word n some whole

-- the parts of a source without a fault
pub is_sound : (source : List ℕ) (labels : List Label) (text datas : List ℕ) → labels ≡ labels_of (lines_placed source) → first_fault labels (lines_placed source) ≡ None → text ≡ section_bytes Text labels (lines_placed source) → datas ≡ section_bytes Data labels (lines_placed source) → 1 ≤ length text → IsSound labels text datas
is_sound source labels text datas labels_are none text_is datas_is some = record {
  some = some;
  text_fits = omega (arith, all.limits Text, ap length text_is);
  data_fits = omega (arith, all.limits Data, ap length datas_is);
  ascending = rw labels_are all.ascending;
  names = rw labels_are all.names;
  aligned = entry.aligned;
  low = entry.low;
  high = entry.high;
} where
  total : (s : Section) → end_in (ends_of text datas) s ≡ start_of s + reach labels s first_place (lines_placed source)
  total Text = omega (arith, ap length text_is)
  total Data = omega (arith, ap length datas_is)

  limits : (s : Section) → bytes_before s first_place ≤ limit_of s
  limits Text = omega arith
  limits Data = omega arith

  all : IsLaid labels (ends_of text datas) first_place (lines_placed source)
  all = laid labels (ends_of text datas) (source_lines source) first_place none limits refl total

  whole : length text % 4 ≡ 0
  whole = rw text_is (omega (arith, all.whole))

  entry : IsEntry (length text) (entry_of labels text)
  entry = is_entry (length text) (spot_of labels (codes "_start")) some whole (λ spot found. spot_word labels (codes "_start") spot (rw labels_are all.words) found)

-- the labels of a section ascend
pub ascends : (source : List ℕ) → first_fault (labels_of (lines_placed source)) (lines_placed source) ≡ None → IsAscending (ends_of (section_bytes Text (labels_of (lines_placed source)) (lines_placed source)) (section_bytes Data (labels_of (lines_placed source)) (lines_placed source))) (labels_of (lines_placed source))
ascends source none = all.ascending where
  labels : List Label
  labels = labels_of (lines_placed source)

  ends : Ends
  ends = ends_of (section_bytes Text labels (lines_placed source)) (section_bytes Data labels (lines_placed source))

  total : (s : Section) → end_in ends s ≡ start_of s + reach labels s first_place (lines_placed source)
  total Text = omega arith
  total Data = omega arith

  limits : (s : Section) → bytes_before s first_place ≤ limit_of s
  limits Text = omega arith
  limits Data = omega arith

  all : IsLaid labels ends first_place (lines_placed source)
  all = laid labels ends (source_lines source) first_place none limits refl total
