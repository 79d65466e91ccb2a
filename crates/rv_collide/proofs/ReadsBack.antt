-- What is read is what was written.
use Rattle.std.proofs.Common.{◌≡◌, ℕ, ◌+◌, ◌-◌, ◌^◌, ◌<◌, ◌≤◌, Bool, true, false, ◌&&◌, ◌==◌, nat_lt, nat_le, Option, Some, None, Result, Ok, Err, All, List, [], ◌∷◌, ◌++◌, map, length, drop, codes, refl, ap, ◌∙◌, sym, subst, arith, append_assoc, append-nil, cond}
use Rattle.std.specs.Prelude.{IfSome, option_and_then, option_map, if◌then◌else◌}
use Rattle.std.specs.Option.{ok_or}
use Rattle.std.specs.List.{join_with_byte, list_all}
use Rattle.std.specs.Char.{is_digit}
use Rattle.std.specs.Str.{bytes_eq}
use Rattle.std.specs.Str.Parse.{AllDigits, digits_value}
use Rattle.std.specs.Fmt.{decimal}
use Rattle.std.proofs.lemmas.Bool.{and_parts}
use Rattle.std.proofs.lemmas.Bool.Decides.{nat_tests}
use Rattle.std.proofs.lemmas.Int.Digits.{digits_value-lt}
use Rattle.std.proofs.lemmas.List.Elements.{All-cons, All-nil}
use Rattle.std.proofs.lemmas.List.Splits.{join_with_byte-slice_split}
use Rattle.std.proofs.lemmas.Slice.Eq.{bytes_eq-Decides}
use Rattle.rv_memory.specs.Chain.{◌>>=◌, want}
use Rattle.rv_text.specs.Numeral.{number_of, up_to}
use Rattle.rv_text.specs.Decimal.{decimal_of, DecimalHasOneSpelling}
use Rattle.rv_text.specs.Hexadecimal.{word_digits, word_of}
use Rattle.rv_text.specs.Lines.{text_of_lines}
use Rattle.rv_text.specs.Pieces.{pieces_of}
use Rattle.rv_collide.specs.Grammar.{HasAddress, IsInReach, IsOfFormat, IsWritableIn, end_line, entry_line, header_line, last_slot, numbers_line, plan_line, schedule_lines, text_in, slot_text}
use Rattle.rv_collide.specs.Plan.{IsPlan, Numbers, most_entries}
use Rattle.rv_collide.specs.ScheduleRead.{Schedule, address_of, at_line, entries_from, entry_in, entry_of, first_line, format_of, hart_of, header_in, is_over, is_plan, named, numbers_of, pause_entry, plan_in, plan_of, schedule_in, schedule_of, short_entry, slot_of, slots_in, words_of}
use Rattle.rv_collide.specs.declared.entry.Entry.{Entry}
use Rattle.rv_collide.specs.declared.entry.Entry.TheVariants.{Stepped, Paused, Resumed, Armed, Disarmed}
use Rattle.rv_collide.specs.declared.schedule.fault.ScheduleKind.{ScheduleKind}
use Rattle.rv_collide.specs.declared.schedule.fault.ScheduleKind.TheVariants as kind
use Rattle.rv_collide.proofs.ScheduleLemmas.{drop_twice}
use Rattle.rv_collide.specs.declared.schedule.format.Format.{Format}
use Rattle.rv_collide.specs.declared.schedule.format.Format.TheVariants.{First, Second}

-- ---- steps that passed

pub record Passed {A B E : Type 0} (r : Result A E) (next : A → Result B E) (b : B) : Type 0 where
  pub value : A
  pub is : r ≡ Ok value
  pub after : next value ≡ Ok b

passed : {A B E : Type 0} (r : Result A E) (next : A → Result B E) (b : B) → (r >>= next) ≡ Ok b → Passed r next b
passed (Ok a) next b is = record { value = a; is = refl; after = is }
passed (Err e) next b is = absurd (cc)

at_ok : {A : Type 0} (number : ℕ) (r : Result A ScheduleKind) (a : A) → at_line number r ≡ Ok a → r ≡ Ok a
at_ok number (Ok value) a is =
    let same : value ≡ a = cc in
    ap Ok same
at_ok number (Err k) a is = absurd (cc)

ok_or_some : {A E : Type 0} (o : Option A) (e : E) (a : A) → ok_or o e ≡ Ok a → o ≡ Some a
ok_or_some None e a is = absurd (cc)
ok_or_some (Some value) e a is =
    let same : value ≡ a = cc in
    ap Some same

wanted : {E : Type 0} (test : Bool) (e : E) (u : Unit {0}) → want test e ≡ Ok u → test ≡ true
wanted true e u is = refl
wanted false e u is = absurd (cc)

pub record Chained {A B : Type 0} (o : Option A) (next : A → Option B) (b : B) : Type 0 where
  pub value : A
  pub is : o ≡ Some value
  pub after : next value ≡ Some b

chained : {A B : Type 0} (o : Option A) (next : A → Option B) (b : B) → option_and_then next o ≡ Some b → Chained o next b
chained (Some a) next b is = record { value = a; is = refl; after = is }
chained None next b is = absurd (cc)

pub record Mapped {A B : Type 0} (o : Option A) (f : A → B) (b : B) : Type 0 where
  pub value : A
  pub is : o ≡ Some value
  pub gives : f value ≡ b

mapped : {A B : Type 0} (o : Option A) (f : A → B) (b : B) → option_map f o ≡ Some b → Mapped o f b
mapped (Some a) f b is =
    let same : f a ≡ b = cc in
    record { value = a; is = refl; gives = same }
mapped None f b is = absurd (cc)

within : (limit : ℕ) (o : Option ℕ) (n : ℕ) → up_to limit o ≡ Some n → (o ≡ Some n) × (n ≤ limit)
within limit None n is = absurd (cc)
within limit (Some m) n is = by_test (nat_le m limit) refl is
  where
    by_test : (fits : Bool) → nat_le m limit ≡ fits → cond fits (Some m) None ≡ Some n → (Some m ≡ Some n) × (n ≤ limit)
    by_test true fits is =
        let same : m ≡ n = cc in
        let few : m ≤ limit = grind (arith, nat_tests) in
        (is, subst (λ (k : ℕ). k ≤ limit) same few)
    by_test false fits is = absurd (cc)

same_bytes : (a b : List ℕ) → bytes_eq a b ≡ true → a ≡ b
same_bytes a b same = (bytes_eq-Decides a b).0 same

same_ok : {A E : Type 0} (r : Result A E) (a b : A) → r ≡ Ok a → r ≡ Ok b → a ≡ b
same_ok r a b here there = cc

-- ---- words

all_digits : (radix : ℕ) (text : List ℕ) → list_all (λ c. is_digit c radix) text ≡ true → AllDigits radix text
all_digits radix [] all = tt
all_digits radix (c ∷ cs) all =
    let parts = and_parts (is_digit c radix) (list_all (λ c. is_digit c radix) cs) all in
    let first : is_digit c radix ≡ true = parts.0 in
    (grind (arith, nat_tests), all_digits radix cs parts.1)

-- a word has 32 bits
word_small : (text : List ℕ) (n : ℕ) → word_of text ≡ Some n → n < 2 ^ 32
unfolding word_of number_of
word_small text n is = by_tests (length text == 8) (nat_lt 0 (length text)) (list_all (λ c. is_digit c 16) text) refl refl is
  where
    by_tests : (eight some all : Bool) → (length text == 8) ≡ eight → list_all (λ c. is_digit c 16) text ≡ all → cond eight (cond (some && all) (Some (digits_value 16 text)) None) None ≡ Some n → n < 2 ^ 32
    by_tests true true true eight all is =
        let long : length text ≡ 8 = grind (arith, nat_tests) in
        let same : digits_value 16 text ≡ n = cc in
        let small : digits_value 16 text < 2 ^ 32 = rw long at (digits_value-lt 16 text (all_digits 16 text all)) in
        subst (λ (k : ℕ). k < 2 ^ 32) same small
    by_tests true true false eight all is = absurd (cc)
    by_tests true false all' eight all is = absurd (cc)
    by_tests false some all' eight all is = absurd (cc)

address_back : (word : List ℕ) (a : ℕ) → address_of word ≡ Some a → (word ≡ word_digits a) × (a < 2 ^ 32)
address_back word a is =
    let read = chained (word_of word) (λ address. if bytes_eq (word_digits address) word then Some address else None) a is in
    by_test read.value (bytes_eq (word_digits read.value) word) refl read.is read.after
  where
    by_test : (value : ℕ) (same : Bool) → bytes_eq (word_digits value) word ≡ same → word_of word ≡ Some value → cond same (Some value) None ≡ Some a → (word ≡ word_digits a) × (a < 2 ^ 32)
    by_test value true same reads is =
        let here : value ≡ a = cc in
        let spelled : word ≡ word_digits value = sym (same_bytes (word_digits value) word same) in
        (spelled ∙ ap word_digits here, subst (λ (k : ℕ). k < 2 ^ 32) here (word_small word value reads))
    by_test value false same reads is = absurd (cc)

-- the line is the entry's, which is in reach
pub record Spells (format : Format) (line : List ℕ) (e : Entry) : Type 0 where
  pub line_is : line ≡ entry_line e
  pub reach : IsInReach format e
  pub address : HasAddress e

module _ (one : DecimalHasOneSpelling) where
  hart_back : (word : List ℕ) (hart : ℕ) → hart_of word ≡ Some hart → (word ≡ decimal hart) × (hart ≤ 15)
  hart_back word hart is =
      let read = within 15 (decimal_of word) hart is in
      (one word hart read.0 (omega (arith, read.1)), read.1)

  last_small : (format : Format) → last_slot format ≤ 7
  last_small First = omega arith
  last_small Second = omega arith

  slot_back : (format : Format) (word : List ℕ) (slot : Option ℕ) → slot_of format word ≡ Some slot → (word ≡ slot_text slot) × IfSome slot (λ s. s ≤ last_slot format)
  slot_back format word slot is = by_test (bytes_eq word (codes "-")) refl is
    where
      by_test : (none : Bool) → bytes_eq word (codes "-") ≡ none → cond none (Some None) (option_map Some (up_to (last_slot format) (decimal_of word))) ≡ Some slot → (word ≡ slot_text slot) × IfSome slot (λ s. s ≤ last_slot format)
      by_test true none is =
          let here : None ≡ slot = cc in
          subst (λ (s : Option ℕ). (word ≡ slot_text s) × IfSome s (λ n. n ≤ last_slot format)) here (same_bytes word (codes "-") none, tt)
      by_test false none is =
          let read = mapped (up_to (last_slot format) (decimal_of word)) Some slot is in
          let number = within (last_slot format) (decimal_of word) read.value read.is in
          let small = last_small format in
          subst (λ (s : Option ℕ). (word ≡ slot_text s) × IfSome s (λ n. n ≤ last_slot format)) read.gives (one word read.value number.0 (omega (arith, number.1, small)), number.1)

  stepped_back : (format : Format) (word : List ℕ) (e : Entry) → option_map Stepped (hart_of word) ≡ Some e → Spells format (codes "s " ++ word) e
  unfolding entry_line
  stepped_back format word e is =
      let read = mapped (hart_of word) Stepped e is in
      let hart = hart_back word read.value read.is in
      subst (λ (x : Entry). Spells format (codes "s " ++ word) x) read.gives (record { line_is = ap (λ w. codes "s " ++ w) hart.0; reach = hart.1; address = tt })

  resumed_back : (format : Format) (word : List ℕ) (e : Entry) → option_map Resumed (hart_of word) ≡ Some e → Spells format (codes "r " ++ word) e
  unfolding entry_line
  resumed_back format word e is =
      let read = mapped (hart_of word) Resumed e is in
      let hart = hart_back word read.value read.is in
      subst (λ (x : Entry). Spells format (codes "r " ++ word) x) read.gives (record { line_is = ap (λ w. codes "r " ++ w) hart.0; reach = hart.1; address = tt })

  armed_back : (format : Format) (word : List ℕ) (e : Entry) → option_map Armed (address_of word) ≡ Some e → Spells format (codes "a " ++ word) e
  unfolding entry_line
  armed_back format word e is =
      let read = mapped (address_of word) Armed e is in
      let address = address_back word read.value read.is in
      subst (λ (x : Entry). Spells format (codes "a " ++ word) x) read.gives (record { line_is = ap (λ w. codes "a " ++ w) address.0; reach = tt; address = address.1 })

  disarmed_back : (format : Format) (word : List ℕ) (e : Entry) → option_map Disarmed (address_of word) ≡ Some e → Spells format (codes "d " ++ word) e
  unfolding entry_line
  disarmed_back format word e is =
      let read = mapped (address_of word) Disarmed e is in
      let address = address_back word read.value read.is in
      subst (λ (x : Entry). Spells format (codes "d " ++ word) x) read.gives (record { line_is = ap (λ w. codes "d " ++ w) address.0; reach = tt; address = address.1 })

  short_back : (format : Format) (name word : List ℕ) (e : Entry) → short_entry name word ≡ Some e → Spells format (name ++ 32 ∷ word) e
  short_back format name word e is = by_tests (bytes_eq name (codes "s")) (bytes_eq name (codes "r")) (bytes_eq name (codes "a")) (bytes_eq name (codes "d")) refl refl refl refl is
    where
      named_so : (letter : List ℕ) → bytes_eq name letter ≡ true → Spells format (letter ++ 32 ∷ word) e → Spells format (name ++ 32 ∷ word) e
      named_so letter same spells = subst (λ (x : List ℕ). Spells format (x ++ 32 ∷ word) e) (sym (same_bytes name letter same)) spells

      by_tests : (s r a d : Bool) → bytes_eq name (codes "s") ≡ s → bytes_eq name (codes "r") ≡ r → bytes_eq name (codes "a") ≡ a → bytes_eq name (codes "d") ≡ d
          → cond s (option_map Stepped (hart_of word)) (cond r (option_map Resumed (hart_of word)) (cond a (option_map Armed (address_of word)) (cond d (option_map Disarmed (address_of word)) None))) ≡ Some e
          → Spells format (name ++ 32 ∷ word) e
      by_tests true r a d is_s is_r is_a is_d is = named_so (codes "s") is_s (stepped_back format word e is)
      by_tests false true a d is_s is_r is_a is_d is = named_so (codes "r") is_r (resumed_back format word e is)
      by_tests false false true d is_s is_r is_a is_d is = named_so (codes "a") is_a (armed_back format word e is)
      by_tests false false false true is_s is_r is_a is_d is = named_so (codes "d") is_d (disarmed_back format word e is)
      by_tests false false false false is_s is_r is_a is_d is = absurd (cc)

  pause_back : (format : Format) (name hart slot : List ℕ) (e : Entry) → pause_entry format name hart slot ≡ Some e → Spells format (name ++ 32 ∷ (hart ++ 32 ∷ slot)) e
  unfolding entry_line
  pause_back format name hart slot e is = by_test (bytes_eq name (codes "p")) refl is
    where
      by_test : (p : Bool) → bytes_eq name (codes "p") ≡ p → cond p (option_and_then (λ h. option_map (Paused h) (slot_of format slot)) (hart_of hart)) None ≡ Some e → Spells format (name ++ 32 ∷ (hart ++ 32 ∷ slot)) e
      by_test false is_p is = absurd (cc)
      by_test true is_p is =
          let first = chained (hart_of hart) (λ h. option_map (Paused h) (slot_of format slot)) e is in
          let second = mapped (slot_of format slot) (Paused first.value) e first.after in
          let h = hart_back hart first.value first.is in
          let s = slot_back format slot second.value second.is in
          let line : codes "p " ++ (hart ++ 32 ∷ slot) ≡ codes "p " ++ decimal first.value ++ codes " " ++ slot_text second.value =
          ap (λ w. codes "p " ++ (w ++ 32 ∷ slot)) h.0 ∙ ap (λ w. codes "p " ++ (decimal first.value ++ 32 ∷ w)) s.0
          ∙ ap (λ w. codes "p " ++ w) (sym (append_assoc (decimal first.value) (codes " ") (slot_text second.value))) in
          let spells : Spells format (codes "p " ++ (hart ++ 32 ∷ slot)) (Paused first.value second.value) = record { line_is = line; reach = (h.1, s.1); address = tt } in
          subst (λ (x : List ℕ). Spells format (x ++ 32 ∷ (hart ++ 32 ∷ slot)) e) (sym (same_bytes name (codes "p") is_p))
          (subst (λ (x : Entry). Spells format (codes "p " ++ (hart ++ 32 ∷ slot)) x) second.gives spells)

  entry_back : (format : Format) (line : List ℕ) (e : Entry) → entry_of format line ≡ Some e → Spells format line e
  unfolding entry_of
  entry_back format line e is = subst (λ (l : List ℕ). Spells format l e) (join_with_byte-slice_split 32 line) (by_words (words_of line) is)
    where
      by_words : (words : List (List ℕ)) → entry_in format words ≡ Some e → Spells format (join_with_byte 32 words) e
      by_words [] is = absurd (cc)
      by_words (name ∷ []) is = absurd (cc)
      by_words (name ∷ word ∷ []) is = short_back format name word e is
      by_words (name ∷ hart ∷ slot ∷ []) is = pause_back format name hart slot e is
      by_words (name ∷ hart ∷ slot ∷ word ∷ words) is = absurd (cc)

  -- ---- the plan

  pub record Named (name : List ℕ) (words : List (List ℕ)) (n : ℕ) : Type 0 where
    pub numeral : List ℕ
    pub rest : List (List ℕ)
    pub words_are : words ≡ name ∷ numeral ∷ rest
    pub reads : decimal_of numeral ≡ Some n

  named_back : (name : List ℕ) (words : List (List ℕ)) (n : ℕ) → named name words ≡ Some n → Named name words n
  named_back name [] n is = absurd (cc)
  named_back name (word ∷ []) n is = absurd (cc)
  named_back name (word ∷ numeral ∷ words) n is = by_test (bytes_eq word name) refl is
    where
      by_test : (same : Bool) → bytes_eq word name ≡ same → cond same (decimal_of numeral) None ≡ Some n → Named name (word ∷ numeral ∷ words) n
      by_test true same is = record { numeral = numeral; rest = words; words_are = ap (λ w. w ∷ numeral ∷ words) (same_bytes word name same); reads = is }
      by_test false same is = absurd (cc)

  plan_is : (n : Numbers) → numbers_line n ≡ codes "harts " ++ (decimal n.harts ++ (codes " steps " ++ (decimal n.steps ++ (codes " arms " ++ (decimal n.arms ++ (codes " pause " ++ decimal n.pause))))))
  unfolding numbers_line
  plan_is n = simp append_assoc

  slots_is : (n : Numbers)
      → plan_line Second n ≡ codes "harts " ++ (decimal n.harts ++ (codes " steps " ++ (decimal n.steps ++ (codes " arms " ++ (decimal n.arms ++ (codes " pause " ++ (decimal n.pause ++ (codes " slots " ++ decimal n.slots))))))))
  unfolding numbers_line
  slots_is n = simp append_assoc

  no_more : (words : List (List ℕ)) → length words ≡ 0 → words ≡ []
  no_more [] none = refl
  no_more (word ∷ words) none = absurd (omega arith)

  -- the words that say the numbers but for the slots, and those after them
  front_words : (words : List (List ℕ)) (n : Numbers) → Named (codes "harts") words n.harts → Named (codes "steps") (drop 2 words) n.steps → Named (codes "arms") (drop 4 words) n.arms
      → Named (codes "pause") (drop 6 words) n.pause → IsPlan n → words ≡ codes "harts" ∷ decimal n.harts ∷ codes "steps" ∷ decimal n.steps ∷ codes "arms" ∷ decimal n.arms ∷ codes "pause" ∷ decimal n.pause ∷ drop 8 words
  front_words words n harts steps arms pause limits =
      let first : words ≡ codes "harts" ∷ harts.numeral ∷ codes "steps" ∷ steps.numeral ∷ steps.rest =
      harts.words_are ∙ ap (λ l. codes "harts" ∷ harts.numeral ∷ l) (sym (ap (drop 2) harts.words_are) ∙ steps.words_are) in
      let second : words ≡ codes "harts" ∷ harts.numeral ∷ codes "steps" ∷ steps.numeral ∷ codes "arms" ∷ arms.numeral ∷ arms.rest =
      first ∙ ap (λ l. codes "harts" ∷ harts.numeral ∷ codes "steps" ∷ steps.numeral ∷ l) (sym (ap (drop 4) first) ∙ arms.words_are) in
      let third : words ≡ codes "harts" ∷ harts.numeral ∷ codes "steps" ∷ steps.numeral ∷ codes "arms" ∷ arms.numeral ∷ codes "pause" ∷ pause.numeral ∷ pause.rest =
      second ∙ ap (λ l. codes "harts" ∷ harts.numeral ∷ codes "steps" ∷ steps.numeral ∷ codes "arms" ∷ arms.numeral ∷ l) (sym (ap (drop 6) second) ∙ pause.words_are) in
      let left : pause.rest ≡ drop 8 words = sym (ap (drop 8) third) in
      let h : harts.numeral ≡ decimal n.harts = one harts.numeral n.harts harts.reads (omega (arith, limits.harts)) in
      let s : steps.numeral ≡ decimal n.steps = one steps.numeral n.steps steps.reads (omega (arith, limits.steps)) in
      let a : arms.numeral ≡ decimal n.arms = one arms.numeral n.arms arms.reads (omega (arith, limits.arms)) in
      let p : pause.numeral ≡ decimal n.pause = one pause.numeral n.pause pause.reads (omega (arith, limits.pause)) in
      third
      ∙ ap (λ w. codes "harts" ∷ w ∷ codes "steps" ∷ steps.numeral ∷ codes "arms" ∷ arms.numeral ∷ codes "pause" ∷ pause.numeral ∷ pause.rest) h
      ∙ ap (λ w. codes "harts" ∷ decimal n.harts ∷ codes "steps" ∷ w ∷ codes "arms" ∷ arms.numeral ∷ codes "pause" ∷ pause.numeral ∷ pause.rest) s
      ∙ ap (λ w. codes "harts" ∷ decimal n.harts ∷ codes "steps" ∷ decimal n.steps ∷ codes "arms" ∷ w ∷ codes "pause" ∷ pause.numeral ∷ pause.rest) a
      ∙ ap (λ w. codes "harts" ∷ decimal n.harts ∷ codes "steps" ∷ decimal n.steps ∷ codes "arms" ∷ decimal n.arms ∷ codes "pause" ∷ w ∷ pause.rest) p
      ∙ ap (λ (l : List (List ℕ)). codes "harts" ∷ decimal n.harts ∷ codes "steps" ∷ decimal n.steps ∷ codes "arms" ∷ decimal n.arms ∷ codes "pause" ∷ decimal n.pause ∷ l) left

  -- the words after them say the slots as the format does
  slots_back : (format : Format) (words rest : List (List ℕ)) (n : Numbers) → words ≡ codes "harts" ∷ decimal n.harts ∷ codes "steps" ∷ decimal n.steps ∷ codes "arms" ∷ decimal n.arms ∷ codes "pause" ∷ decimal n.pause ∷ rest → slots_in format rest ≡ Some n.slots → IsPlan n
      → (join_with_byte 32 words ≡ plan_line format n) × IsOfFormat format n
  slots_back First words rest n whole said limits = by_length (length rest == 0) refl said
    where
      by_length : (none : Bool) → (length rest == 0) ≡ none → cond none (Some 4) None ≡ Some n.slots → (join_with_byte 32 words ≡ numbers_line n) × (n.slots ≡ 4)
      by_length true none is =
          let empty : length rest ≡ 0 = grind (arith, nat_tests) in
          let four : 4 ≡ n.slots = cc in
          (ap (join_with_byte 32) (whole ∙ ap (λ (l : List (List ℕ)). codes "harts" ∷ decimal n.harts ∷ codes "steps" ∷ decimal n.steps ∷ codes "arms" ∷ decimal n.arms ∷ codes "pause" ∷ decimal n.pause ∷ l) (no_more rest empty)) ∙ sym (plan_is n), sym four)
      by_length false none is = absurd (cc)
  slots_back Second words rest n whole said limits =
      let slots = chained (named (codes "slots") rest) (λ slots. if length rest == 2 then Some slots else None) n.slots said in
      by_length slots.value (length rest == 2) refl slots.is slots.after
    where
      by_length : (m : ℕ) (two : Bool) → (length rest == 2) ≡ two → named (codes "slots") rest ≡ Some m → cond two (Some m) None ≡ Some n.slots → (join_with_byte 32 words ≡ plan_line Second n) × IsOfFormat Second n
      by_length m true two is here =
          let same : m ≡ n.slots = cc in
          let two : length rest ≡ 2 = grind (arith, nat_tests) in
          let word = named_back (codes "slots") rest m is in
          let none : length word.rest ≡ 0 = omega (arith, ap length word.words_are, two) in
          let s : word.numeral ≡ decimal n.slots = one word.numeral m word.reads (omega (arith, same, limits.slots)) ∙ ap decimal same in
          let left : rest ≡ codes "slots" ∷ decimal n.slots ∷ [] =
          word.words_are ∙ ap (λ (l : List (List ℕ)). codes "slots" ∷ word.numeral ∷ l) (no_more word.rest none) ∙ ap (λ (w : List ℕ). codes "slots" ∷ w ∷ []) s in
          (ap (join_with_byte 32) (whole ∙ ap (λ (l : List (List ℕ)). codes "harts" ∷ decimal n.harts ∷ codes "steps" ∷ decimal n.steps ∷ codes "arms" ∷ decimal n.arms ∷ codes "pause" ∷ decimal n.pause ∷ l) left) ∙ sym (slots_is n), tt)
      by_length m false two is here = absurd (cc)

  numbers_back : (format : Format) (words : List (List ℕ)) (n : Numbers) → numbers_of format words ≡ Some n → IsPlan n → (join_with_byte 32 words ≡ plan_line format n) × IsOfFormat format n
  unfolding numbers_of
  numbers_back format words n is limits =
      let harts = chained (named (codes "harts") words)
      (λ harts. option_and_then (λ steps. option_and_then (λ arms. option_and_then (λ pause. option_and_then (λ slots. Some (record { harts = harts; steps = steps; arms = arms; pause = pause; slots = slots })) (slots_in format (drop 8 words))) (named (codes "pause") (drop 6 words))) (named (codes "arms") (drop 4 words))) (named (codes "steps") (drop 2 words))) n is in
      let steps = chained (named (codes "steps") (drop 2 words))
      (λ steps. option_and_then (λ arms. option_and_then (λ pause. option_and_then (λ slots. Some (record { harts = harts.value; steps = steps; arms = arms; pause = pause; slots = slots })) (slots_in format (drop 8 words))) (named (codes "pause") (drop 6 words))) (named (codes "arms") (drop 4 words))) n harts.after in
      let arms = chained (named (codes "arms") (drop 4 words))
      (λ arms. option_and_then (λ pause. option_and_then (λ slots. Some (record { harts = harts.value; steps = steps.value; arms = arms; pause = pause; slots = slots })) (slots_in format (drop 8 words))) (named (codes "pause") (drop 6 words))) n steps.after in
      let pause = chained (named (codes "pause") (drop 6 words))
      (λ pause. option_and_then (λ slots. Some (record { harts = harts.value; steps = steps.value; arms = arms.value; pause = pause; slots = slots })) (slots_in format (drop 8 words))) n arms.after in
      let slots = chained (slots_in format (drop 8 words)) (λ slots. Some (record { harts = harts.value; steps = steps.value; arms = arms.value; pause = pause.value; slots = slots })) n pause.after in
      said (record { harts = harts.value; steps = steps.value; arms = arms.value; pause = pause.value; slots = slots.value }) harts.is steps.is arms.is pause.is slots.is slots.after
    where
      said : (m : Numbers) → named (codes "harts") words ≡ Some m.harts → named (codes "steps") (drop 2 words) ≡ Some m.steps → named (codes "arms") (drop 4 words) ≡ Some m.arms
          → named (codes "pause") (drop 6 words) ≡ Some m.pause → slots_in format (drop 8 words) ≡ Some m.slots → Some m ≡ Some n → (join_with_byte 32 words ≡ plan_line format n) × IsOfFormat format n
      said m h s a p l here =
          let same : m ≡ n = cc in
          let limits : IsPlan m = subst IsPlan (sym same) limits in
          let front = front_words words m (named_back (codes "harts") words m.harts h) (named_back (codes "steps") (drop 2 words) m.steps s) (named_back (codes "arms") (drop 4 words) m.arms a)
          (named_back (codes "pause") (drop 6 words) m.pause p) limits in
          subst (λ (k : Numbers). (join_with_byte 32 words ≡ plan_line format k) × IsOfFormat format k) same (slots_back format words (drop 8 words) m front l limits)

  plan_back : (format : Format) (line : List ℕ) (n : Numbers) → plan_of format line ≡ Ok n → IsPlan n → (line ≡ plan_line format n) × IsOfFormat format n
  unfolding plan_of
  plan_back format line n is limits =
      let read = passed (ok_or (numbers_of format (words_of line)) kind.PlanLine) (λ m. want (is_plan m) kind.PlanRange >>= λ _. Ok m) n is in
      let fits = passed (want (is_plan read.value) kind.PlanRange) (λ _. Ok read.value) n read.after in
      let same : read.value ≡ n = same_ok (Ok read.value) read.value n refl fits.after in
      let words : numbers_of format (words_of line) ≡ Some n = ok_or_some (numbers_of format (words_of line)) kind.PlanLine read.value read.is ∙ ap Some same in
      let back = numbers_back format (words_of line) n words limits in
      (sym (join_with_byte-slice_split 32 line) ∙ back.0, back.1)

  -- ---- the entries

  pub record IsEntries (format : Format) (room : ℕ) (lines : List (List ℕ)) (entries : List Entry) : Type 0 where
    pub lines_are : lines ≡ map entry_line entries ++ end_line ∷ [] ∷ []
    pub reach : All (IsInReach format) entries
    pub address : All HasAddress entries
    pub few : length entries ≤ room

  lines_first : (lines : List (List ℕ)) (line : List ℕ) → first_line lines ≡ Ok line → lines ≡ line ∷ drop 1 lines
  lines_first [] line is = absurd (cc)
  lines_first (cut ∷ []) line is = by_test (nat_lt 64 (length cut)) is
    where
      by_test : (long : Bool) → cond long (Err kind.TooLong) (Err kind.NoEnd) ≡ Ok line → cut ∷ [] ≡ line ∷ []
      by_test true is = absurd (cc)
      by_test false is = absurd (cc)
  lines_first (first ∷ next ∷ more) line is = by_test (nat_lt 64 (length first)) is
    where
      by_test : (long : Bool) → cond long (Err kind.TooLong) (Ok first) ≡ Ok line → first ∷ next ∷ more ≡ line ∷ next ∷ more
      by_test true is = absurd (cc)
      by_test false is =
          let same : first ≡ line = cc in
          ap (λ l. l ∷ next ∷ more) same

  over_back : (first : List ℕ) (lines : List (List ℕ)) (line : List ℕ) → first_line (first ∷ lines) ≡ Ok line → is_over lines ≡ true → lines ≡ [] ∷ []
  over_back first [] line is over = absurd (by_test (nat_lt 64 (length first)) is)
    where
      by_test : (long : Bool) → cond long (Err kind.TooLong) (Err kind.NoEnd) ≡ Ok line → ⊥
      by_test true is = cc
      by_test false is = cc
  over_back first ([] ∷ []) line is over = refl
  over_back first ((b ∷ text) ∷ []) line is over =
      let longer : (length (b ∷ text) == 0) ≡ false = grind (arith, nat_tests) in
      absurd (cc)
  over_back first (next ∷ after ∷ more) line is over = absurd (cc)

  step_back : (format : Format) (number room : ℕ) (first : List ℕ) (lines : List (List ℕ)) (entries : List Entry)
      → ((n r : ℕ) (rest : List Entry) → entries_from format n r lines ≡ Ok rest → IsEntries format r lines rest)
      → entries_from format number room (first ∷ lines) ≡ Ok entries → IsEntries format room (first ∷ lines) entries
  unfolding entries_from
  step_back format number room first lines entries later is =
      let read = passed (at_line number (first_line (first ∷ lines)))
      (λ line. if bytes_eq line end_line then at_line (number + 1) (want (is_over lines) kind.AfterEnd >>= λ _. Ok []) else
      (at_line number (ok_or (entry_of format line) kind.Entry) >>= λ entry. at_line number (want (nat_lt 0 room) kind.TooMany) >>= λ _. entries_from format (number + 1) (room - 1) lines >>= λ rest. Ok (entry ∷ rest)))
      entries is in
      by_end read.value (bytes_eq read.value end_line) refl (at_ok number (first_line (first ∷ lines)) read.value read.is) read.after
    where
      by_end : (line : List ℕ) (end : Bool) → bytes_eq line end_line ≡ end → first_line (first ∷ lines) ≡ Ok line
          → cond end (at_line (number + 1) (want (is_over lines) kind.AfterEnd >>= λ _. Ok []))
          (at_line number (ok_or (entry_of format line) kind.Entry) >>= λ entry. at_line number (want (nat_lt 0 room) kind.TooMany) >>= λ _. entries_from format (number + 1) (room - 1) lines >>= λ rest. Ok (entry ∷ rest)) ≡ Ok entries
          → IsEntries format room (first ∷ lines) entries
      by_end line true end is here =
          let over = passed (want (is_over lines) kind.AfterEnd) (λ _. Ok []) entries (at_ok (number + 1) (want (is_over lines) kind.AfterEnd >>= λ _. Ok []) entries here) in
          let none : [] ≡ entries = same_ok (Ok []) [] entries refl over.after in
          let left = over_back first lines line is (wanted (is_over lines) kind.AfterEnd over.value over.is) in
          let all : first ∷ lines ≡ end_line ∷ [] ∷ [] =
          lines_first (first ∷ lines) line is ∙ ap (λ l. line ∷ l) left ∙ ap (λ l. l ∷ [] ∷ []) (same_bytes line end_line end) in
          let empty : IsEntries format room (first ∷ lines) [] = record { lines_are = all; reach = All-nil (IsInReach format); address = All-nil HasAddress; few = omega arith } in
          subst (λ (es : List Entry). IsEntries format room (first ∷ lines) es) none empty
      by_end line false end is here =
          let entry = passed (at_line number (ok_or (entry_of format line) kind.Entry)) (λ entry. at_line number (want (nat_lt 0 room) kind.TooMany) >>= λ _. entries_from format (number + 1) (room - 1) lines >>= λ rest. Ok (entry ∷ rest)) entries here in
          let some = passed (at_line number (want (nat_lt 0 room) kind.TooMany)) (λ _. entries_from format (number + 1) (room - 1) lines >>= λ rest. Ok (entry.value ∷ rest)) entries entry.after in
          let rest = passed (entries_from format (number + 1) (room - 1) lines) (λ rest. Ok (entry.value ∷ rest)) entries some.after in
          let same : entry.value ∷ rest.value ≡ entries = same_ok (Ok (entry.value ∷ rest.value)) (entry.value ∷ rest.value) entries refl rest.after in
          let spells = entry_back format line entry.value (ok_or_some (entry_of format line) kind.Entry entry.value (at_ok number (ok_or (entry_of format line) kind.Entry) entry.value entry.is)) in
          let room_is = wanted (nat_lt 0 room) kind.TooMany some.value (at_ok number (want (nat_lt 0 room) kind.TooMany) some.value some.is) in
          let more : 0 < room = grind (arith, nat_tests) in
          let others = later (number + 1) (room - 1) rest.value rest.is in
          let all : first ∷ lines ≡ entry_line entry.value ∷ map entry_line rest.value ++ end_line ∷ [] ∷ [] =
          lines_first (first ∷ lines) line is ∙ ap (λ l. line ∷ l) others.lines_are ∙ ap (λ l. l ∷ map entry_line rest.value ++ end_line ∷ [] ∷ []) spells.line_is in
          let whole : IsEntries format room (first ∷ lines) (entry.value ∷ rest.value) = record {
            lines_are = all;
            reach = All-cons (IsInReach format) entry.value rest.value spells.reach others.reach;
            address = All-cons HasAddress entry.value rest.value spells.address others.address;
            few = omega (arith, more, others.few);
          } in
          subst (λ (es : List Entry). IsEntries format room (first ∷ lines) es) same whole

  entries_back : (format : Format) (lines : List (List ℕ)) (number room : ℕ) (entries : List Entry) → entries_from format number room lines ≡ Ok entries → IsEntries format room lines entries
  unfolding entries_from
  entries_back format [] number room entries is = absurd (cc)
  entries_back format (first ∷ lines) number room entries is = step_back format number room first lines entries (λ n r rest read. entries_back format lines n r rest read) is

  -- ---- the whole

  join_lines : (lines : List (List ℕ)) → join_with_byte 10 (lines ++ [] ∷ []) ≡ text_of_lines lines
  join_lines [] = refl
  join_lines (line ∷ []) = sym (append-nil (line ++ 10 ∷ []))
  join_lines (line ∷ next ∷ lines) = ap (λ text. line ++ 10 ∷ text) (join_lines (next ∷ lines)) ∙ sym (append_assoc line (10 ∷ []) (text_of_lines (next ∷ lines)))

  format_back : (line : List ℕ) (format : Format) → format_of line ≡ Ok format → line ≡ header_line format
  format_back line format is = by_tests (bytes_eq line (header_line First)) (bytes_eq line (header_line Second)) refl refl is
    where
      by_tests : (first second : Bool) → bytes_eq line (header_line First) ≡ first → bytes_eq line (header_line Second) ≡ second
          → cond first (Ok First) (cond second (Ok Second) (Err kind.Header)) ≡ Ok format → line ≡ header_line format
      by_tests true second is_first is_second is =
          let same : First ≡ format = cc in
          same_bytes line (header_line First) is_first ∙ ap header_line same
      by_tests false true is_first is_second is =
          let same : Second ≡ format = cc in
          same_bytes line (header_line Second) is_second ∙ ap header_line same
      by_tests false false is_first is_second is = absurd (cc)

  header_back : (lines : List (List ℕ)) (format : Format) → header_in lines ≡ Ok format → lines ≡ header_line format ∷ drop 1 lines
  header_back lines format is =
      let read = passed (first_line lines) format_of format is in
      lines_first lines read.value read.is ∙ ap (λ l. l ∷ drop 1 lines) (format_back read.value format read.after)

  plan_line_back : (format : Format) (lines : List (List ℕ)) (n : Numbers) → plan_in format lines ≡ Ok n → IsPlan n → (lines ≡ plan_line format n ∷ drop 1 lines) × IsOfFormat format n
  plan_line_back format lines n is limits =
      let read = passed (first_line lines) (plan_of format) n is in
      let back = plan_back format read.value n read.after limits in
      (lines_first lines read.value read.is ∙ ap (λ l. l ∷ drop 1 lines) back.0, back.1)

  -- a text that is read
  pub record IsText (format : Format) (text : List ℕ) (s : Schedule) : Type 0 where
    pub writable : IsWritableIn format s.numbers s.entries
    pub addresses : All HasAddress s.entries
    pub spelled : text ≡ text_in format s.numbers s.entries

  -- what stands after the first line
  rest_back : (format : Format) (lines : List (List ℕ)) (s : Schedule) → IsPlan s.numbers → header_in lines ≡ Ok format
      → (at_line 2 (plan_in format (drop 1 lines)) >>= λ n. entries_from format 3 (most_entries n) (drop 2 lines) >>= λ entries. Ok (record { numbers = n; entries = entries })) ≡ Ok s
      → IsText format (join_with_byte 10 lines) s
  unfolding text_in
  rest_back format lines s limits header is =
      let plan = passed (at_line 2 (plan_in format (drop 1 lines))) (λ n. entries_from format 3 (most_entries n) (drop 2 lines) >>= λ entries. Ok (record { numbers = n; entries = entries })) s is in
      let rest = passed (entries_from format 3 (most_entries plan.value) (drop 2 lines)) (λ entries. Ok (record { numbers = plan.value; entries = entries })) s plan.after in
      let same : (record { numbers = plan.value; entries = rest.value }) ≡ s = same_ok (Ok (record { numbers = plan.value; entries = rest.value })) (record { numbers = plan.value; entries = rest.value }) s refl rest.after in
      let n_same : plan.value ≡ s.numbers = ap (λ x. x.numbers) same in
      let es_same : rest.value ≡ s.entries = ap (λ x. x.entries) same in
      let numbers_in : plan_in format (drop 1 lines) ≡ Ok s.numbers = at_ok 2 (plan_in format (drop 1 lines)) plan.value plan.is ∙ ap Ok n_same in
      let entries_in : entries_from format 3 (most_entries s.numbers) (drop 2 lines) ≡ Ok s.entries = sym (ap (λ n. entries_from format 3 (most_entries n) (drop 2 lines)) n_same) ∙ rest.is ∙ ap Ok es_same in
      let entries = entries_back format (drop 2 lines) 3 (most_entries s.numbers) s.entries entries_in in
      let first = header_back lines format header in
      let second = plan_line_back format (drop 1 lines) s.numbers numbers_in limits in
      let third : drop 1 (drop 1 lines) ≡ map entry_line s.entries ++ end_line ∷ [] ∷ [] = drop_twice lines ∙ entries.lines_are in
      let whole : lines ≡ schedule_lines format s.numbers s.entries ++ [] ∷ [] =
      first ∙ ap (λ l. header_line format ∷ l) (second.0 ∙ ap (λ l. plan_line format s.numbers ∷ l) third)
      ∙ ap (λ l. header_line format ∷ plan_line format s.numbers ∷ l) (sym (append_assoc (map entry_line s.entries) (end_line ∷ []) ([] ∷ []))) in
      record {
        writable = record { plan = second.1; each = entries.reach; few = entries.few };
        addresses = entries.address;
        spelled = ap (join_with_byte 10) whole ∙ join_lines (schedule_lines format s.numbers s.entries);
      }

  text_back : (lines : List (List ℕ)) (s : Schedule) → IsPlan s.numbers → schedule_in lines ≡ Ok s → (format : Format) × IsText format (join_with_byte 10 lines) s
  unfolding schedule_in
  text_back lines s limits is =
      let header = passed (at_line 1 (header_in lines)) (λ format. at_line 2 (plan_in format (drop 1 lines)) >>= λ n. entries_from format 3 (most_entries n) (drop 2 lines) >>= λ entries. Ok (record { numbers = n; entries = entries })) s is in
      (header.value, rest_back header.value lines s limits (at_ok 1 (header_in lines) header.value header.is) header.after)

  pub schedule_back : (text : List ℕ) (s : Schedule) → IsPlan s.numbers → schedule_of text ≡ Ok s → (format : Format) × IsText format text s
  unfolding schedule_of
  schedule_back text s limits is =
      subst (λ (t : List ℕ). (format : Format) × IsText format t s) (join_with_byte-slice_split 10 text) (text_back (pieces_of 10 text) s limits is)
