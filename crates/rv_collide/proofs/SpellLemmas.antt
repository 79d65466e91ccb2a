-- A schedule that is written is read back.
use Rattle.std.proofs.Common.{◌≡◌, ℕ, ◌+◌, ◌-◌, ◌^◌, ◌<◌, ◌≤◌, Bool, true, false, ◌==◌, nat_lt, nat_le, Option, Some, None, Ok, All, List, [], ◌∷◌, ◌++◌, map, length, codes, refl, ap, ◌∙◌, sym, arith, append_assoc, append-nil, length-append, cond}
use Rattle.std.specs.Prelude.{IfSome}
use Rattle.std.specs.List.{list_any}
use Rattle.std.specs.Str.{bytes_eq}
use Rattle.std.specs.Fmt.{decimal}
use Rattle.std.proofs.lemmas.Bool.{or_from, or_parts}
use Rattle.std.proofs.lemmas.Bool.Decides.{nat_tests}
use Rattle.std.proofs.lemmas.Fmt.{decimal_digit, length-decimal-le}
use Rattle.std.proofs.lemmas.List.Elements.{All-head, All-tail}
use Rattle.std.proofs.lemmas.List.Folds.{list_any-append}
use Rattle.std.proofs.lemmas.Slice.Eq.{bytes_eq-Decides}
use Rattle.rv_text.specs.Numeral.{number_of}
use Rattle.rv_text.specs.Decimal.{DecimalIsReadBack, DecimalLacksSeparators}
use Rattle.rv_text.specs.Hexadecimal.{word_digits, word_of, WordIsReadBack, WordLacksSeparators}
use Rattle.rv_text.specs.Lines.{has_line_feed, text_of_lines}
use Rattle.rv_text.specs.Pieces.{pieces_of, Lacks, PiecesAreCut}
use Rattle.rv_collide.specs.Grammar.{HasAddress, IsInReach, IsWritableIn, end_line, entry_line, header_line, IsOfFormat, last_slot, numbers_line, plan_line, schedule_lines, text_in, slot_text}
use Rattle.rv_collide.specs.Plan.{IsPlan, Numbers, most_entries}
use Rattle.rv_collide.specs.ScheduleRead.{address_of, entries_from, entry_of, first_line, hart_of, header_in, is_plan, numbers_of, plan_in, plan_of, schedule_in, schedule_of, slot_of, slots_in, words_of}
use Rattle.rv_collide.specs.declared.entry.Entry.{Entry}
use Rattle.rv_collide.specs.declared.entry.Entry.TheVariants.{Stepped, Paused, Resumed, Armed, Disarmed}
use Rattle.rv_collide.specs.internal.Before.{entries_before}
use Rattle.rv_collide.proofs.CutLemmas.{line_of}
use Rattle.rv_collide.proofs.EntriesLemmas.{at_end, one_more}
use Rattle.rv_collide.specs.declared.schedule.format.Format.{Format}
use Rattle.rv_collide.specs.declared.schedule.format.Format.TheVariants.{First, Second}

-- ---- lines

word_length : (text : List ℕ) (n : ℕ) → word_of text ≡ Some n → length text ≡ 8
unfolding word_of
word_length text n reads = by_test (length text == 8) refl reads
  where
    by_test : (eight : Bool) → (length text == 8) ≡ eight → cond eight (number_of 16 text) None ≡ Some n → length text ≡ 8
    by_test true is reads = grind (arith, nat_tests)
    by_test false is reads = cc

-- texts of lines are cut into them, with nothing after the last LF
text_pieces : PiecesAreCut → (lines : List (List ℕ)) → list_any has_line_feed lines ≡ false → pieces_of 10 (text_of_lines lines) ≡ lines ++ [] ∷ []
text_pieces cut [] lack = refl
text_pieces cut (line ∷ lines) lack =
    let parts = or_parts (has_line_feed line) (list_any has_line_feed lines) lack in
    ap (pieces_of 10) (append_assoc line (10 ∷ []) (text_of_lines lines)) ∙ (cut 10 line (text_of_lines lines) parts.0).0 ∙ ap (λ more. line ∷ more) (text_pieces cut lines parts.1)

first_differs : (a b : ℕ) (xs ys : List ℕ) → (a == b) ≡ false → bytes_eq (a ∷ xs) (b ∷ ys) ≡ false
first_differs a b xs ys other = rw other refl

-- lines end with `end`, so that a first line among them has another after it
line_then : (line : List ℕ) (lines more : List (List ℕ)) (last : List ℕ) → length line ≤ 64 → first_line (line ∷ lines ++ last ∷ more) ≡ Ok line
line_then line [] more last short = line_of line last more short
line_then line (next ∷ lines) more last short = line_of line next (lines ++ last ∷ more) short

-- the lines of entries, `end`, and nothing
abbrev lines_after : List Entry → List (List ℕ)
lines_after entries = map entry_line entries ++ end_line ∷ [] ∷ []

line_before : (line : List ℕ) (entries : List Entry) → length line ≤ 64 → first_line (line ∷ lines_after entries) ≡ Ok line
line_before line [] short = line_of line end_line ([] ∷ []) short
line_before line (entry ∷ entries) short = line_of line (entry_line entry) (lines_after entries) short

last_small : (format : Format) → last_slot format ≤ 7
last_small First = omega arith
last_small Second = omega arith

low_slot : (format : Format) (slot : Option ℕ) → IfSome slot (λ s. s ≤ last_slot format) → IfSome slot (λ s. s ≤ 7)
low_slot format None few = tt
low_slot format (Some slot) few = let small = last_small format in omega arith

module _ (decimals : DecimalIsReadBack) (decimal_lacks : DecimalLacksSeparators) (words_back : WordIsReadBack) (word_lacks : WordLacksSeparators) (cut : PiecesAreCut) where
  number_lacks_lf : (byte n : ℕ) → byte < 48 → n < 2 ^ 64 → Lacks byte (decimal n)
  number_lacks_lf byte n low small = decimal_lacks byte low (decimal n) n (decimals n small)

  address_lacks : (byte a : ℕ) → byte < 48 → a < 2 ^ 32 → Lacks byte (word_digits a)
  address_lacks byte a low small = word_lacks byte low (word_digits a) a (words_back a small)

  slot_lacks : (byte : ℕ) (slot : Option ℕ) → byte < 45 → IfSome slot (λ s. s ≤ 7) → Lacks byte (slot_text slot)
  slot_lacks byte None low few =
      let other : (45 == byte) ≡ false = grind (arith, nat_tests) in
      rw other refl
  slot_lacks byte (Some slot) low few = number_lacks_lf byte slot (omega arith) (omega arith)

  hart_read : (hart : ℕ) → hart ≤ 15 → hart_of (decimal hart) ≡ Some hart
  hart_read hart few =
      let fits : nat_le hart 15 ≡ true = grind (arith, nat_tests) in
      rw (decimals hart (omega arith), fits) refl

  slot_read : (format : Format) (slot : Option ℕ) → IfSome slot (λ s. s ≤ last_slot format) → slot_of format (slot_text slot) ≡ Some slot
  slot_read format None few = refl
  slot_read format (Some slot) few =
      let small = last_small format in
      let digit = decimal_digit slot (omega arith) in
      let differs : (48 + slot == 45) ≡ false = grind (arith, nat_tests) in
      let other : bytes_eq (decimal slot) (codes "-") ≡ false = rw digit (first_differs (48 + slot) 45 [] [] differs) in
      let fits : nat_le slot (last_slot format) ≡ true = grind (arith, nat_tests) in
      rw (other, decimals slot (omega arith), fits) refl

  address_read : (a : ℕ) → a < 2 ^ 32 → address_of (word_digits a) ≡ Some a
  address_read a small =
      let same : bytes_eq (word_digits a) (word_digits a) ≡ true = (bytes_eq-Decides (word_digits a) (word_digits a)).1 refl in
      rw (words_back a small, same) refl

  entry_read : (format : Format) (e : Entry) → IsInReach format e → HasAddress e → entry_of format (entry_line e) ≡ Some e
  unfolding entry_of entry_line
  entry_read format (Stepped hart) reach address =
      rw ((cut 32 (decimal hart) [] (number_lacks_lf 32 hart (omega arith) (omega arith))).1, hart_read hart reach) refl
  entry_read format (Resumed hart) reach address =
      rw ((cut 32 (decimal hart) [] (number_lacks_lf 32 hart (omega arith) (omega arith))).1, hart_read hart reach) refl
  entry_read format (Armed a) reach address =
      rw ((cut 32 (word_digits a) [] (address_lacks 32 a (omega arith) address)).1, address_read a address) refl
  entry_read format (Disarmed a) reach address =
      rw ((cut 32 (word_digits a) [] (address_lacks 32 a (omega arith) address)).1, address_read a address) refl
  entry_read format (Paused hart slot) reach address =
      let text = slot_text slot in
      let whole : (decimal hart ++ 32 ∷ []) ++ slot_text slot ≡ decimal hart ++ 32 ∷ slot_text slot = append_assoc (decimal hart) (32 ∷ []) (slot_text slot) in
      let words = (cut 32 (decimal hart) (slot_text slot) (number_lacks_lf 32 hart (omega arith) (omega arith))).0 in
      let last = (cut 32 (slot_text slot) [] (slot_lacks 32 slot (omega arith) (low_slot format slot reach.1))).1 in
      rw (whole, words, last, hart_read hart reach.0, slot_read format slot reach.1) refl

  entry_lacks : (format : Format) (e : Entry) → IsInReach format e → HasAddress e → Lacks 10 (entry_line e)
  unfolding entry_line
  entry_lacks format (Stepped hart) reach address = number_lacks_lf 10 hart (omega arith) (omega arith)
  entry_lacks format (Resumed hart) reach address = number_lacks_lf 10 hart (omega arith) (omega arith)
  entry_lacks format (Armed a) reach address = address_lacks 10 a (omega arith) address
  entry_lacks format (Disarmed a) reach address = address_lacks 10 a (omega arith) address
  entry_lacks format (Paused hart slot) reach address =
      let front : Lacks 10 (decimal hart ++ 32 ∷ []) = list_any-append (λ b. b == 10) (decimal hart) (32 ∷ []) ∙ or_from _ _ (number_lacks_lf 10 hart (omega arith) (omega arith)) refl in
      list_any-append (λ b. b == 10) (decimal hart ++ 32 ∷ []) (slot_text slot) ∙ or_from _ _ front (slot_lacks 10 slot (omega arith) (low_slot format slot reach.1))

  slot_short : (slot : Option ℕ) → IfSome slot (λ s. s ≤ 7) → length (slot_text slot) ≤ 1
  slot_short None few = omega arith
  slot_short (Some slot) few = length-decimal-le 1 slot (omega arith) (omega arith) (omega arith)

  entry_short : (format : Format) (e : Entry) → IsInReach format e → HasAddress e → length (entry_line e) ≤ 64
  unfolding entry_line
  entry_short format (Stepped hart) reach address = omega (arith, length-decimal-le 2 hart (omega arith) (omega arith) (omega arith))
  entry_short format (Resumed hart) reach address = omega (arith, length-decimal-le 2 hart (omega arith) (omega arith) (omega arith))
  entry_short format (Armed a) reach address = omega (arith, word_length (word_digits a) a (words_back a address))
  entry_short format (Disarmed a) reach address = omega (arith, word_length (word_digits a) a (words_back a address))
  entry_short format (Paused hart slot) reach address =
      let two = length-decimal-le 2 hart (omega arith) (omega arith) (omega arith) in
      let one = slot_short slot (low_slot format slot reach.1) in
      simp length-append (omega (arith, two, one))

  not_end : (e : Entry) → bytes_eq (entry_line e) end_line ≡ false
  unfolding entry_line
  not_end (Stepped hart) = refl
  not_end (Paused hart slot) = refl
  not_end (Resumed hart) = refl
  not_end (Armed a) = refl
  not_end (Disarmed a) = refl

  entries_read : (format : Format) (entries : List Entry) (number room : ℕ) → All (IsInReach format) entries → All HasAddress entries → length entries ≤ room → entries_from format number room (lines_after entries) ≡ Ok entries
  entries_read format [] number room reach address few = at_end format number room (end_line ∷ [] ∷ []) end_line ([] ∷ []) refl refl refl refl
  entries_read format (e ∷ entries) number room reach address few =
      let here = All-head (IsInReach format) e entries reach in
      let there = All-head HasAddress e entries address in
      let some : nat_lt 0 room ≡ true = grind (arith, nat_tests) in
      let line = line_before (entry_line e) entries (entry_short format e here there) in
      one_more format number room (entry_line e ∷ lines_after entries) (entry_line e) (lines_after entries) refl line e (not_end e) (entry_read format e here there) some
      ∙ ap (entries_before (e ∷ [])) (entries_read format entries (number + 1) (room - 1) (All-tail (IsInReach format) e entries reach) (All-tail HasAddress e entries address) (omega arith))

  -- ---- the plan

  -- the line of the numbers, and what follows
  abbrev line_before_slots : Numbers → List ℕ → List ℕ
  line_before_slots n slots = codes "harts " ++ (decimal n.harts ++ (codes " steps " ++ (decimal n.steps ++ (codes " arms " ++ (decimal n.arms ++ (codes " pause " ++ (decimal n.pause ++ slots)))))))

  abbrev slot_words : Format → Numbers → List (List ℕ)
  slot_words First n = []
  slot_words Second n = codes "slots" ∷ decimal n.slots ∷ []

  abbrev slots_text : Format → Numbers → List ℕ
  slots_text First n = []
  slots_text Second n = codes " slots " ++ decimal n.slots

  plan_is : (format : Format) (n : Numbers) → plan_line format n ≡ line_before_slots n (slots_text format n)
  unfolding numbers_line
  plan_is First n = simp (append_assoc, append-nil)
  plan_is Second n = simp append_assoc

  -- the last number of a line, and the words after it
  last_words : (format : Format) (n : Numbers) → IsPlan n → pieces_of 32 (decimal n.pause ++ slots_text format n) ≡ decimal n.pause ∷ slot_words format n
  last_words First n limits =
      ap (pieces_of 32) (append-nil (decimal n.pause)) ∙ (cut 32 (decimal n.pause) [] (number_lacks_lf 32 n.pause (omega arith) (omega (arith, limits.pause)))).1
  last_words Second n limits =
      let pause = (cut 32 (decimal n.pause) (codes "slots " ++ decimal n.slots) (number_lacks_lf 32 n.pause (omega arith) (omega (arith, limits.pause)))).0 in
      let slots = (cut 32 (decimal n.slots) [] (number_lacks_lf 32 n.slots (omega arith) (omega (arith, limits.slots)))).1 in
      rw (pause, slots) refl

  plan_words : (format : Format) (n : Numbers) → IsPlan n → words_of (plan_line format n) ≡ codes "harts" ∷ decimal n.harts ∷ codes "steps" ∷ decimal n.steps ∷ codes "arms" ∷ decimal n.arms ∷ codes "pause" ∷ decimal n.pause ∷ slot_words format n
  plan_words format n limits =
      let after : List ℕ = decimal n.pause ++ slots_text format n in
      let harts = (cut 32 (decimal n.harts) (codes "steps " ++ (decimal n.steps ++ (codes " arms " ++ (decimal n.arms ++ (codes " pause " ++ after))))) (number_lacks_lf 32 n.harts (omega arith) (omega (arith, limits.harts)))).0 in
      let steps = (cut 32 (decimal n.steps) (codes "arms " ++ (decimal n.arms ++ (codes " pause " ++ after))) (number_lacks_lf 32 n.steps (omega arith) (omega (arith, limits.steps)))).0 in
      let arms = (cut 32 (decimal n.arms) (codes "pause " ++ after) (number_lacks_lf 32 n.arms (omega arith) (omega (arith, limits.arms)))).0 in
      ap words_of (plan_is format n) ∙ rw (harts, steps, arms, last_words format n limits) refl

  plan_fits : (n : Numbers) → IsPlan n → is_plan n ≡ true
  plan_fits n limits =
      let a : nat_le 1 n.harts ≡ true = grind (arith, nat_tests, limits.some_hart) in
      let b : nat_le n.harts 16 ≡ true = grind (arith, nat_tests, limits.harts) in
      let c : nat_le 1 n.steps ≡ true = grind (arith, nat_tests, limits.some_step) in
      let d : nat_le n.steps 1_000_000 ≡ true = grind (arith, nat_tests, limits.steps) in
      let e : nat_le n.arms 4096 ≡ true = grind (arith, nat_tests, limits.arms) in
      let f : nat_le 1 n.pause ≡ true = grind (arith, nat_tests, limits.some_pause) in
      let g : nat_le n.pause 65_535 ≡ true = grind (arith, nat_tests, limits.pause) in
      let h : nat_le 1 n.slots ≡ true = grind (arith, nat_tests, limits.some_slot) in
      let i : nat_le n.slots 8 ≡ true = grind (arith, nat_tests, limits.slots) in
      rw (a, b, c, d, e, f, g, h, i) refl

  slots_read : (format : Format) (n : Numbers) → IsPlan n → IsOfFormat format n → slots_in format (slot_words format n) ≡ Some n.slots
  slots_read First n limits is = ap Some (sym is)
  slots_read Second n limits is = rw (decimals n.slots (omega (arith, limits.slots))) refl

  numbers_read : (format : Format) (n : Numbers) → IsPlan n → IsOfFormat format n → numbers_of format (codes "harts" ∷ decimal n.harts ∷ codes "steps" ∷ decimal n.steps ∷ codes "arms" ∷ decimal n.arms ∷ codes "pause" ∷ decimal n.pause ∷ slot_words format n) ≡ Some n
  unfolding numbers_of
  numbers_read format n limits is =
      rw (decimals n.harts (omega (arith, limits.harts)), decimals n.steps (omega (arith, limits.steps)), decimals n.arms (omega (arith, limits.arms)), decimals n.pause (omega (arith, limits.pause)), slots_read format n limits is) refl

  plan_read : (format : Format) (n : Numbers) → IsPlan n → IsOfFormat format n → plan_of format (plan_line format n) ≡ Ok n
  unfolding plan_of
  plan_read format n limits is = rw (plan_words format n limits, numbers_read format n limits is, plan_fits n limits) refl

  slots_short : (format : Format) (n : Numbers) → IsPlan n → length (slots_text format n) ≤ 8
  slots_short First n limits = omega arith
  slots_short Second n limits =
      let slots = length-decimal-le 1 n.slots (omega arith) (omega (arith, limits.slots)) (omega (arith, limits.slots)) in
      omega (arith, slots)

  plan_short : (format : Format) (n : Numbers) → IsPlan n → length (plan_line format n) ≤ 64
  plan_short format n limits =
      let harts = length-decimal-le 2 n.harts (omega arith) (omega (arith, limits.harts)) (omega (arith, limits.harts)) in
      let steps = length-decimal-le 7 n.steps (omega arith) (omega (arith, limits.steps)) (omega (arith, limits.steps)) in
      let arms = length-decimal-le 4 n.arms (omega arith) (omega (arith, limits.arms)) (omega (arith, limits.arms)) in
      let pause = length-decimal-le 5 n.pause (omega arith) (omega (arith, limits.pause)) (omega (arith, limits.pause)) in
      let slots = slots_short format n limits in
      rw (plan_is format n) (simp length-append (omega (arith, harts, steps, arms, pause, slots)))

  slots_lack : (format : Format) (n : Numbers) → IsPlan n → Lacks 10 (slots_text format n)
  slots_lack First n limits = refl
  slots_lack Second n limits = number_lacks_lf 10 n.slots (omega arith) (omega (arith, limits.slots))

  plan_lacks : (format : Format) (n : Numbers) → IsPlan n → Lacks 10 (plan_line format n)
  plan_lacks format n limits =
      let harts = number_lacks_lf 10 n.harts (omega arith) (omega (arith, limits.harts)) in
      let steps = number_lacks_lf 10 n.steps (omega arith) (omega (arith, limits.steps)) in
      let arms = number_lacks_lf 10 n.arms (omega arith) (omega (arith, limits.arms)) in
      let pause = number_lacks_lf 10 n.pause (omega arith) (omega (arith, limits.pause)) in
      ap (list_any (λ b. b == 10)) (plan_is format n)
      ∙ rw (list_any-append (λ b. b == 10) (decimal n.harts), harts, list_any-append (λ b. b == 10) (decimal n.steps), steps, list_any-append (λ b. b == 10) (decimal n.arms), arms, list_any-append (λ b. b == 10) (decimal n.pause), pause) (slots_lack format n limits)

  -- ---- the whole

  entries_lack : (format : Format) (entries : List Entry) → All (IsInReach format) entries → All HasAddress entries → list_any has_line_feed (map entry_line entries ++ end_line ∷ []) ≡ false
  entries_lack format [] reach address = refl
  entries_lack format (e ∷ entries) reach address =
      or_from _ _ (entry_lacks format e (All-head (IsInReach format) e entries reach) (All-head HasAddress e entries address))
      (entries_lack format entries (All-tail (IsInReach format) e entries reach) (All-tail HasAddress e entries address))

  header_lacks : (format : Format) → has_line_feed (header_line format) ≡ false
  header_lacks First = refl
  header_lacks Second = refl

  pieces_are : (format : Format) (n : Numbers) (entries : List Entry) → IsPlan n → All (IsInReach format) entries → All HasAddress entries → pieces_of 10 (text_in format n entries) ≡ header_line format ∷ plan_line format n ∷ lines_after entries
  unfolding text_in
  pieces_are format n entries limits reach address =
      let lack : list_any has_line_feed (schedule_lines format n entries) ≡ false = or_from _ _ (header_lacks format) (or_from _ _ (plan_lacks format n limits) (entries_lack format entries reach address)) in
      text_pieces cut (schedule_lines format n entries) lack ∙ ap (λ more. header_line format ∷ plan_line format n ∷ more) (append_assoc (map entry_line entries) (end_line ∷ []) ([] ∷ []))

  header_there : (format : Format) (line : List ℕ) (more : List (List ℕ)) → header_in (header_line format ∷ line ∷ more) ≡ Ok format
  header_there First line more = refl
  header_there Second line more = refl

  plan_there : (format : Format) (n : Numbers) (entries : List Entry) → IsPlan n → IsOfFormat format n → plan_in format (plan_line format n ∷ lines_after entries) ≡ Ok n
  plan_there format n entries limits is = rw (line_before (plan_line format n) entries (plan_short format n limits)) (plan_read format n limits is)

  pub schedule_read : (format : Format) (n : Numbers) (entries : List Entry) → IsPlan n → IsWritableIn format n entries → All HasAddress entries → schedule_of (text_in format n entries) ≡ Ok (record { numbers = n; entries = entries })
  unfolding schedule_of schedule_in
  schedule_read format n entries limits writable address =
      let pieces = pieces_are format n entries limits writable.each address in
      let header = header_there format (plan_line format n) (lines_after entries) in
      let plan = plan_there format n entries limits writable.plan in
      let rest = entries_read format entries 3 (most_entries n) writable.each address writable.few in
      rw (pieces, header, plan, rest) refl
