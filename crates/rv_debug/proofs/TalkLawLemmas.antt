-- Two talks over the same lines are one but for want of memory.
use Rattle.std.proofs.Common.{◌≡◌, ℕ, zero, suc, ◌+◌, ◌<◌, Bool, true, false, ◌==◌, List, [], ◌∷◌, ◌++◌, Option, Some, None, length, drop, get_or, refl, sym, ap, subst, ◌∙◌, inl, inr, arith, append_assoc, length-append}
use Rattle.std.specs.Prelude.{◌⊎◌, ◌/◌, ◌%◌, nat_le, slice_get, IsSome, IsSomeAnd, if◌then◌else◌, option_and_then, option_map, codes}
use Rattle.std.specs.Char.{digit_char}
use Rattle.std.specs.List.{flat_map}
use Rattle.std.proofs.Math.Seq.{drop-append_seam}
use Rattle.std.proofs.lemmas.Bool.Decides.{nat_tests}
use Rattle.rv_asm.specs.Listing.{listed}
use Rattle.rv_debug.specs.Answered.{Answer, IsAnswer, IsAnswered, IsFinding, TakesMemory, bytes_text, found_text, hart_text, place_text, refuses, showing}
use Rattle.rv_debug.specs.Answers.{IsFirstTouch, bytes_from, line_at, lines_from, series, word_at}
use Rattle.rv_debug.specs.Command.{command_of}
use Rattle.rv_debug.specs.Placed.{Placed, moved, state}
use Rattle.rv_debug.specs.Talk.{Answers}
use Rattle.rv_debug.specs.TalkLaws.{AreOne, LacksMemoryInOne, no_memory}
use Rattle.rv_debug.specs.declared.command.Command.{Command}
use Rattle.rv_debug.specs.declared.command.Command.TheVariants as said
use Rattle.rv_debug.specs.declared.session.SessionFault.TheVariants.{NoBytes, NoHart, NoMemory}
use Rattle.rv_hart.specs.State.{State}
use Rattle.rv_memory.specs.Memory.{Memory}
use Rattle.rv_text.specs.Hexadecimal.{byte_digits, hex_digits, word_digits}
use Rattle.rv_text.specs.Lines.{text_of_lines}

-- ---- a command has one answer of its own

one_of_state : {S A : Type 0} (o : Option S) (f : S → A) (a b : A) → IsSomeAnd o (λ s. a ≡ f s) → IsSomeAnd o (λ s. b ≡ f s) → a ≡ b
one_of_state None f a b is also = absurd is
one_of_state (Some s) f a b is also = is ∙ sym also

one_place : (p : Placed) (address i k : ℕ) → IsFirstTouch p address i → IsFirstTouch p address k → i ≡ k
one_place p address i k first also =
    let not_below : i < k → ⊥ = λ lt. also.least i first.from lt first.touches in
    let not_above : k < i → ⊥ = λ lt. first.least k also.from lt also.touches in
    omega arith

one_finding : (p : Placed) (address : ℕ) (a b : Answer) → IsFinding p address a → IsFinding p address b → a ≡ b
one_finding p address a b is also =
    elim is [
      | inl x ↦ elim also [
        | inl y ↦ x.1.1 ∙ ap (λ (i : ℕ). record { text = found_text i; place = i + 1 }) (one_place p address x.0 y.0 x.1.0 y.1.0) ∙ sym y.1.1
        | inr y ↦ absurd (y.0 x.0 x.1.0.from x.1.0.touches)
      ]
      | inr x ↦ elim also [
        | inl y ↦ absurd (x.0 y.0 y.1.0.from y.1.0.touches)
        | inr y ↦ x.1 ∙ sym y.1
      ]
    ]

one_answer : (p : Placed) (command : Command) (a b : Answer) → IsAnswer p command a → IsAnswer p command b → a ≡ b
one_answer p (said.Go n) a b is also = is ∙ sym also
one_answer p said.Forward a b is also = is ∙ sym also
one_answer p said.Back a b is also = is ∙ sym also
one_answer p (said.Hart h) a b is also = one_of_state (state p) (λ (s : State). showing p NoHart (hart_text h) (slice_get s.harts h)) a b is also
one_answer p (said.Bytes address len) a b is also = one_of_state (state p) (λ (s : State). showing p NoBytes (bytes_text address) (bytes_from s.memory address len)) a b is also
one_answer p (said.Lines address count) a b is also = one_of_state (state p) (λ (s : State). showing p NoBytes text_of_lines (lines_from s.memory address count)) a b is also
one_answer p (said.Find address) a b is also = one_finding p address a b is also
one_answer p said.Quit a b is also = is ∙ sym also

apart : (a b : ℕ) → (a == b) ≡ false → a ≡ b → ⊥
apart a b test same = grind (arith, nat_tests)

-- ---- an answer that takes memory is not `fault 5 NoMemory`

digits_length : (places n : ℕ) → length (hex_digits places n) ≡ places
digits_length zero n = refl
digits_length (suc places) n = length-append (hex_digits places (n / 16)) (digit_char (n % 16) ∷ []) ∙ let before = digits_length places (n / 16) in omega arith

past_digits : (n : ℕ) (rest : List ℕ) → drop 8 (word_digits n ++ rest) ≡ rest
unfolding word_digits
past_digits n rest = subst (λ (k : ℕ). drop k (hex_digits 8 n ++ rest) ≡ rest) (digits_length 8 n) (drop-append_seam (hex_digits 8 n) rest)

-- behind eight digits stands a colon
colon_behind : (n : ℕ) (rest : List ℕ) → word_digits n ++ (58 ∷ rest) ≡ no_memory → ⊥
colon_behind n rest is =
    apart 58 78 refl (ap (λ (l : List ℕ). get_or l 0 0) (sym (past_digits n (58 ∷ rest)) ∙ ap (drop 8) is))

bytes_differ : (address : ℕ) (bytes : List ℕ) → bytes_text address bytes ≡ no_memory → ⊥
bytes_differ address bytes is =
    let each = flat_map (λ byte. 32 ∷ byte_digits byte) bytes in
    colon_behind address (each ++ 10 ∷ []) (sym (append_assoc (word_digits address ++ codes ":") each (10 ∷ []) ∙ append_assoc (word_digits address) (codes ":") (each ++ 10 ∷ [])) ∙ is)

head_of : {A : Type 0} (o : Option A) (rest : Option (List A)) (x : A) (xs : List A) → option_and_then (λ y. option_map (λ ys. y ∷ ys) rest) o ≡ Some (x ∷ xs) → o ≡ Some x
head_of None rest x xs is = cc
head_of (Some y) None x xs is = cc
head_of (Some y) (Some ys) x xs is = cc

listed_word : (o : Option ℕ) (address : ℕ) (line : List ℕ) → option_map (λ word. listed address word) o ≡ Some line → (word : ℕ) × (line ≡ listed address word)
listed_word None address line is = cc
listed_word (Some word) address line is = (word, cc)

first_listed : (m : Memory) (address count : ℕ) (line : List ℕ) (lines : List (List ℕ)) → series (line_at m) 4 address count ≡ Some (line ∷ lines) → (word : ℕ) × (line ≡ listed address word)
first_listed m address zero line lines is = cc
first_listed m address (suc count) line lines is = listed_word (word_at m address) address line (head_of (line_at m address) (series (line_at m) 4 (address + 4) count) line lines is)

where_multiple : {A : Type 0} (test : Bool) (o : Option A) (x : A) → (if test then o else None) ≡ Some x → o ≡ Some x
where_multiple true o x is = is
where_multiple false o x is = cc

line_differs : (address word : ℕ) (rest : List ℕ) → (listed address word ++ 10 ∷ []) ++ rest ≡ no_memory → ⊥
line_differs address word rest is =
    colon_behind address _ (sym (append_assoc (listed address word) (10 ∷ []) rest ∙ append_assoc (word_digits address) _ (10 ∷ rest)) ∙ is)

lines_differ : (m : Memory) (address count : ℕ) (lines : List (List ℕ)) → lines_from m address count ≡ Some lines → text_of_lines lines ≡ no_memory → ⊥
lines_differ m address count [] found is = apart 0 102 refl (ap (λ (l : List ℕ). get_or l 0 0) is)
lines_differ m address count (line ∷ lines) found is =
    let first = first_listed m address count line lines (where_multiple (address % 4 == 0) (series (line_at m) 4 address count) (line ∷ lines) found) in
    line_differs address first.0 (text_of_lines lines) (ap (λ l. (l ++ 10 ∷ []) ++ text_of_lines lines) (sym first.1) ∙ is)

shown_differs : {S A : Type 0} (p : Placed) (o : Option S) (found : S → Option A) (text : A → List ℕ) (answer : Answer) → ((s : S) (x : A) → found s ≡ Some x → text x ≡ no_memory → ⊥)
    → IsSomeAnd o (λ s. IsSome (found s)) → IsSomeAnd o (λ s. answer ≡ showing p NoBytes text (found s)) → answer.text ≡ no_memory → ⊥
shown_differs p None found text answer differs there is = absurd there
shown_differs p (Some s) found text answer differs there is = by_found (found s) refl there is
  where
    by_found : (o : Option _) → found s ≡ o → IsSome o → answer ≡ showing p NoBytes text o → answer.text ≡ no_memory → ⊥
    by_found None at some shows_it same = cc
    by_found (Some x) at some shows_it same = differs s x at (sym (ap (λ (a : Answer). a.text) shows_it) ∙ same)

finding_differs : (p : Placed) (address : ℕ) (answer : Answer) → IsFinding p address answer → answer.text ≡ no_memory → ⊥
finding_differs p address answer is same =
    elim is [
      | inl x ↦ apart 111 97 refl (ap (λ (l : List ℕ). get_or l 1 0) (sym (ap (λ (a : Answer). a.text) x.1.1) ∙ same))
      | inr x ↦ apart 52 53 refl (ap (λ (l : List ℕ). get_or l 6 0) (sym (ap (λ (a : Answer). a.text) x.1) ∙ same))
    ]

place_differs : (place : ℕ) → place_text place ≡ no_memory → ⊥
place_differs place is = apart 97 102 refl (ap (λ (l : List ℕ). get_or l 0 0) is)

own_differs : (p : Placed) (command : Command) (answer : Answer) → TakesMemory p command → IsAnswer p command answer → answer.text ≡ no_memory → ⊥
own_differs p (said.Go n) answer takes is same =
    let within : nat_le n (length p.entries) ≡ true = grind (arith, nat_tests) in
    place_differs n (sym (ap (λ (a : Answer). a.text) (rw within at is)) ∙ same)
own_differs p said.Forward answer takes is same =
    let before : (p.place == length p.entries) ≡ false = grind (arith, nat_tests) in
    place_differs _ (sym (ap (λ (a : Answer). a.text) (rw before at is)) ∙ same)
own_differs p said.Back answer takes is same =
    let later : (p.place == 0) ≡ false = grind (arith, nat_tests) in
    place_differs _ (sym (ap (λ (a : Answer). a.text) (rw later at is)) ∙ same)
own_differs p (said.Hart h) answer takes is same = absurd takes
own_differs p (said.Bytes address len) answer takes is same = shown_differs p (state p) (λ (s : State). bytes_from s.memory address len) (bytes_text address) answer (λ s bytes found. bytes_differ address bytes) takes is same
own_differs p (said.Lines address count) answer takes is same = shown_differs p (state p) (λ (s : State). lines_from s.memory address count) text_of_lines answer (λ s lines found. lines_differ s.memory address count lines found) takes is same
own_differs p (said.Find address) answer takes is same = finding_differs p address answer is same
own_differs p said.Quit answer takes is same = absurd takes

-- ---- the talk

text_of : (a b : Answer) → a ≡ b → a.text ≡ b.text
text_of a b same = ap (λ (a : Answer). a.text) same

answered_once : (p : Placed) (command : Option Command) (a b : Answer) → IsAnswered p command a → IsAnswered p command b → (a ≡ b) ⊎ LacksMemoryInOne a.text b.text
answered_once p None a b is also = inl (is ∙ sym also)
answered_once p (Some command) a b is also =
    elim is [
      | inl x ↦ elim also [
        | inl y ↦ inl (one_answer p command a b x y)
        | inr y ↦ inr (inr (own_differs p command a y.0 x, text_of b (refuses p NoMemory) y.1))
      ]
      | inr x ↦ elim also [
        | inl y ↦ inr (inl (text_of a (refuses p NoMemory) x.1, own_differs p command b x.0 y))
        | inr y ↦ inl (x.1 ∙ sym y.1)
      ]
    ]

pub talks_are_one : (p : Placed) (lines one other : List (List ℕ)) (end end' : Placed) → Answers p lines one end → Answers p lines other end' → AreOne one other
talks_are_one p [] one other end end' was also = rw (was.0, also.0) tt
talks_are_one p (line ∷ lines) one other end end' was also =
    let parts = was.1.1 in
    let parts' = also.1.1 in
    rw (parts.2, parts'.2) (
    elim (answered_once p (command_of line) was.0 also.0 parts.0 parts'.0) [
      | inl same ↦ inl (text_of was.0 also.0 same, talks_are_one (moved p was.0.place) lines was.1.0 also.1.0 end end' parts.1 (subst (λ (a : Answer). Answers (moved p a.place) lines also.1.0 end') (sym same) parts'.1))
      | inr lacks ↦ inr lacks
    ]
    )
