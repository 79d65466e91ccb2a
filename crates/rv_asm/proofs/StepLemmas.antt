-- One line without a fault, and the place of the next.
use Rattle.std.proofs.Common.{◌≡◌, ℕ, ◌+◌, ◌-◌, ◌%◌, ◌≤◌, Bool, true, false, List, [], length, Option, Some, None, Result, Ok, Err, refl, ap, ◌∙◌, arith}
use Rattle.std.specs.Prelude.{not, nat_le, if◌then◌else◌}
use Rattle.std.specs.Option.{option_or}
use Rattle.std.proofs.lemmas.Bool.{and_parts}
use Rattle.std.proofs.lemmas.Bool.Decides.{nat_tests}
use Rattle.rv_memory.specs.Chain.{◌>>=◌, want}
use Rattle.rv_asm.specs.Layout.{next_place, after_statement, standing, has_room, grown, bytes_before, limit_of, address_of, label_size}
use Rattle.rv_asm.specs.Size.{size_of, section_after}
use Rattle.rv_asm.specs.Bytes.{bytes_of}
use Rattle.rv_asm.specs.Assembled.{line_bytes, is_taken, is_within, if_in, fault_at}
use Rattle.rv_asm.proofs.LengthLemmas.{statement_length}
use Rattle.rv_asm.specs.declared.fault.AsmFault.{AsmFault}
use Rattle.rv_asm.specs.declared.passes.place.Label.{Label}
use Rattle.rv_asm.specs.declared.passes.place.Place.{Place}
use Rattle.rv_asm.specs.declared.passes.place.PlacedLine.{PlacedLine}
use Rattle.rv_asm.specs.declared.statement.AsmKind.{AsmKind}
use Rattle.rv_asm.specs.declared.statement.AsmKind.TheVariants.{LabelTwice, TooLarge}
use Rattle.rv_asm.specs.declared.statement.Section.{Section}
use Rattle.rv_asm.specs.declared.statement.Section.TheVariants.{Text, Data}
use Rattle.rv_asm.specs.declared.statement.Statement.{Statement}

-- what a line without a fault has
pub record IsFine (labels : List Label) (p : PlacedLine) (bytes : List ℕ) : Type 0 where
  pub statement : Option Statement
  pub said : p.line.statement ≡ Ok statement
  pub are : bytes_of labels (address_of p.place) statement ≡ Ok bytes
  pub within : is_within p.place p.line.label statement ≡ true

pub fine : (labels : List Label) (p : PlacedLine) (bytes : List ℕ) → line_bytes labels p ≡ Ok bytes → IsFine labels p bytes
unfolding line_bytes
fine labels p bytes e = at (is_taken labels p.place.lines_before p.line.label) p.line.statement refl e where
  last : (s : Option Statement) → p.line.statement ≡ Ok s → (q : Result (List ℕ) AsmKind) → bytes_of labels (address_of p.place) s ≡ q → (w : Bool) → is_within p.place p.line.label s ≡ w → (q >>= λ b. want w TooLarge >>= λ _. Ok b) ≡ Ok bytes → IsFine labels p bytes
  last s said (Err kind) is w lies e = absurd (cc)
  last s said (Ok b) is false lies e = absurd (cc)
  last s said (Ok b) is true lies e =
      let same : b ≡ bytes = cc in record { statement = s; said = said; are = is ∙ ap (λ x. Ok x) same; within = lies }

  at : (taken : Bool) (r : Result (Option Statement) AsmKind) → p.line.statement ≡ r → (want (not taken) LabelTwice >>= λ _. r >>= λ s. bytes_of labels (address_of p.place) s >>= λ b. want (is_within p.place p.line.label s) TooLarge >>= λ _. Ok b) ≡ Ok bytes → IsFine labels p bytes
  at true r said e = absurd (cc)
  at false (Err kind) said e = absurd (cc)
  at false (Ok s) said e = last s said (bytes_of labels (address_of p.place) s) refl (is_within p.place p.line.label s) refl e

-- a place with one that has grown
grown_bytes : (s t : Section) (place : Place) (x : Section) (y z : ℕ) (bytes : List ℕ) (n : ℕ) → length bytes ≡ n → bytes_before s (record (grown t n place) { section = x; lines_before = y; label_room = z }) ≡ bytes_before s place + length (if_in s t (Ok bytes))
grown_bytes Text Text place x y z bytes n is = omega arith
grown_bytes Text Data place x y z bytes n is = omega arith
grown_bytes Data Text place x y z bytes n is = omega arith
grown_bytes Data Data place x y z bytes n is = omega arith

grown_within : (s t : Section) (place : Place) (x : Section) (y z n : ℕ) → bytes_before t place + n ≤ limit_of t → bytes_before s place ≤ limit_of s → bytes_before s (record (grown t n place) { section = x; lines_before = y; label_room = z }) ≤ limit_of s
grown_within Text Text place x y z n room within = room
grown_within Text Data place x y z n room within = within
grown_within Data Text place x y z n room within = within
grown_within Data Data place x y z n room within = room

grown_text : (t : Section) (place : Place) (x : Section) (y z n : ℕ) → place.text_size % 4 ≡ 0 → (t ≡ Text → n % 4 ≡ 0) → (record (grown t n place) { section = x; lines_before = y; label_room = z }).text_size % 4 ≡ 0
grown_text Text place x y z n whole words = let more : n % 4 ≡ 0 = words refl in omega arith
grown_text Data place x y z n whole words = whole

kept_bytes : (s : Section) (place : Place) (t : Section) (y z : ℕ) → bytes_before s (record place { lines_before = y; label_room = z }) ≡ bytes_before s place + length (if_in s t (Ok []))
kept_bytes Text place Text y z = omega arith
kept_bytes Text place Data y z = omega arith
kept_bytes Data place Text y z = omega arith
kept_bytes Data place Data y z = omega arith

kept_within : (s : Section) (place : Place) (y z : ℕ) → bytes_before s place ≤ limit_of s → bytes_before s (record place { lines_before = y; label_room = z }) ≤ limit_of s
kept_within Text place y z within = within
kept_within Data place y z within = within

-- what the place after a line without a fault is
pub record IsNext (p : PlacedLine) (bytes : List ℕ) (next : Place) : Type 0 where
  pub sizes : (s : Section) → bytes_before s next ≡ bytes_before s p.place + length (if_in s p.place.section (Ok bytes))
  pub within : ((s : Section) → bytes_before s p.place ≤ limit_of s) → (s : Section) → bytes_before s next ≤ limit_of s
  pub words : p.place.text_size % 4 ≡ 0 → next.text_size % 4 ≡ 0
  pub room : next.label_room + label_size p.line.label ≡ p.place.label_room

next_said : (p : PlacedLine) (r : Result (Option Statement) AsmKind) → p.line.statement ≡ r → next_place p ≡ record (after_statement p.place (standing p.place r)) { lines_before = p.place.lines_before + 1; label_room = p.place.label_room - label_size p.line.label }
unfolding next_place
next_said p r said = ap (λ q. record (after_statement p.place (standing p.place q)) { lines_before = p.place.lines_before + 1; label_room = p.place.label_room - label_size p.line.label }) said

pub next_of : (labels : List Label) (p : PlacedLine) (bytes : List ℕ) → ((s : Statement) → p.place.section ≡ Text → p.line.statement ≡ Ok (Some s) → size_of s % 4 ≡ 0) → IsFine labels p bytes → IsNext p bytes (next_place p)
next_of labels p bytes aligned f = at f.statement f.said f.are f.within where
  at : (o : Option Statement) → p.line.statement ≡ Ok o → bytes_of labels (address_of p.place) o ≡ Ok bytes → is_within p.place p.line.label o ≡ true → IsNext p bytes (next_place p)
  at None said are lies =
      let none : bytes ≡ [] = cc in
      let fits = (and_parts (nat_le (label_size p.line.label) p.place.label_room) true lies).0 in
      let room : label_size p.line.label ≤ p.place.label_room = grind (arith, nat_tests) in
      let is : next_place p ≡ record p.place { lines_before = p.place.lines_before + 1; label_room = p.place.label_room - label_size p.line.label } = next_said p (Ok None) said in
      rw (is, none) (record {
        sizes = λ s. kept_bytes s p.place p.place.section (p.place.lines_before + 1) (p.place.label_room - label_size p.line.label);
        within = λ all s. kept_within s p.place (p.place.lines_before + 1) (p.place.label_room - label_size p.line.label) (all s);
        words = λ w. w;
        room = omega arith;
      })
  at (Some s) said are lies =
      let parts = and_parts (nat_le (label_size p.line.label) p.place.label_room) (has_room p.place s) lies in
      let fits = parts.0 in
      let room : label_size p.line.label ≤ p.place.label_room = grind (arith, nat_tests) in
      let space = parts.1 in
      let within : bytes_before p.place.section p.place + size_of s ≤ limit_of p.place.section = grind (arith, nat_tests) in
      let long : length bytes ≡ size_of s = statement_length labels (address_of p.place) s bytes are in
      let is : next_place p ≡ record (grown p.place.section (size_of s) p.place) { section = section_after s p.place.section; lines_before = p.place.lines_before + 1; label_room = p.place.label_room - label_size p.line.label } =
      next_said p (Ok (Some s)) said ∙ ap (λ b. record (after_statement p.place (if b then Some s else None)) { lines_before = p.place.lines_before + 1; label_room = p.place.label_room - label_size p.line.label }) space in
      rw is (record {
        sizes = λ t. grown_bytes t p.place.section p.place (section_after s p.place.section) (p.place.lines_before + 1) (p.place.label_room - label_size p.line.label) bytes (size_of s) long;
        within = λ all t. grown_within t p.place.section p.place (section_after s p.place.section) (p.place.lines_before + 1) (p.place.label_room - label_size p.line.label) (size_of s) within (all t);
        words = λ w. grown_text p.place.section p.place (section_after s p.place.section) (p.place.lines_before + 1) (p.place.label_room - label_size p.line.label) (size_of s) w (λ text. aligned s text said);
        room = omega arith;
      })

-- the first line of lines without a fault has none
pub none_parts : (number : ℕ) (r : Result (List ℕ) AsmKind) (o : Option AsmFault) → option_or (fault_at number r) o ≡ None → (bytes : List ℕ) × (r ≡ Ok bytes) × (o ≡ None)
none_parts number (Ok bytes) o none = (bytes, refl, none)
none_parts number (Err kind) o none = absurd (cc)
