-- The first fault of a long text lies in its front, so that reading the front is enough.
use Rattle.std.proofs.Common.{◌≡◌, ℕ, ◌+◌, ◌-◌, ◌*◌, ◌<◌, ◌≤◌, zero, suc, Bool, true, false, ◌==◌, nat_lt, nat_le, Option, Some, None, Result, Ok, Err, ◌⊎◌, inl, inr, List, [], ◌∷◌, ◌++◌, length, take, drop, refl, ap, ◌∙◌, sym, subst, arith, append_assoc, length-append}
use Rattle.std.specs.Prelude.{IfOk, IfErr, IfSome}
use Rattle.std.specs.List.{list_any}
use Rattle.std.specs.Option.{ok_or}
use Rattle.std.specs.Str.{bytes_eq}
use Rattle.std.proofs.Math.Seq.{take-append-add}
use Rattle.std.proofs.lemmas.Bool.{or_from, or_parts}
use Rattle.std.proofs.lemmas.Bool.Decides.{nat_tests}
use Rattle.std.proofs.lemmas.List.{take_all, take-append-drop, length-take-le}
use Rattle.rv_memory.specs.Chain.{◌>>=◌, want}
use Rattle.rv_text.specs.Pieces.{pieces_of, Lacks, PiecesAreCut}
use Rattle.rv_collide.specs.Grammar.{end_line}
use Rattle.rv_collide.specs.Plan.{Numbers, most_entries}
use Rattle.rv_collide.specs.ScheduleRead.{Schedule, IsToldFault, entries_from, entry_of, first_line, format_of, header_in, is_over, is_plan, numbers_of, plan_in, plan_of, schedule_in, schedule_of, words_of}
use Rattle.rv_collide.specs.declared.entry.Entry.{Entry}
use Rattle.rv_collide.specs.declared.schedule.fault.ScheduleFault.{ScheduleFault}
use Rattle.rv_collide.specs.declared.schedule.fault.ScheduleKind.{ScheduleKind}
use Rattle.rv_collide.specs.declared.schedule.fault.ScheduleKind.TheVariants as kind
use Rattle.rv_collide.specs.internal.Before.{entries_before}
use Rattle.rv_collide.proofs.CutLemmas.{cut_line, cut_rest, front_long, over_where_empty}
use Rattle.rv_collide.proofs.EntriesLemmas.{no_line, at_end, after_end, no_entry, too_many, one_more}
use Rattle.rv_collide.proofs.ScheduleLemmas.{header_fault, plan_fault, whole_fault, whole_read}
use Rattle.rv_collide.specs.declared.schedule.format.Format.{Format}

-- ---- the first LF

pub record IsCut (text line rest : List ℕ) : Type 0 where
  pub lacks : Lacks 10 line
  pub is : text ≡ line ++ 10 ∷ rest

cut_of : (text : List ℕ) → Lacks 10 text ⊎ ((line : List ℕ) × (rest : List ℕ) × IsCut text line rest)
cut_of [] = inl refl
cut_of (b ∷ text) = by_test (b == 10) refl (cut_of text)
  where
    by_test : (here : Bool) → (b == 10) ≡ here → Lacks 10 text ⊎ ((line : List ℕ) × (rest : List ℕ) × IsCut text line rest)
        → Lacks 10 (b ∷ text) ⊎ ((line : List ℕ) × (rest : List ℕ) × IsCut (b ∷ text) line rest)
    by_test true here later =
        let feed : b ≡ 10 = grind (arith, nat_tests) in
        inr ([], text, record { lacks = refl; is = ap (λ c. c ∷ text) feed })
    by_test false other (inl lacks) = inl (or_from (b == 10) (list_any (λ c. c == 10) text) other lacks)
    by_test false other (inr (line, rest, cut)) =
        inr (b ∷ line, rest, record { lacks = or_from (b == 10) (list_any (λ c. c == 10) line) other cut.lacks; is = ap (λ t. b ∷ t) cut.is })

lacks_take : (n : ℕ) (text : List ℕ) → Lacks 10 text → Lacks 10 (take n text)
lacks_take zero text lacks = refl
lacks_take (suc n) [] lacks = refl
lacks_take (suc n) (b ∷ text) lacks =
    let parts = or_parts (b == 10) (list_any (λ c. c == 10) text) lacks in
    or_from (b == 10) (list_any (λ c. c == 10) (take n text)) parts.0 (lacks_take n text parts.1)

-- ---- a front has the first line of the text

pub record SameFault (n : ℕ) (text : List ℕ) : Type 0 where
  pub kind : ScheduleKind
  pub whole : first_line (pieces_of 10 text) ≡ Err kind
  pub front : first_line (pieces_of 10 (take n text)) ≡ Err kind

pub record SameLine (n : ℕ) (text : List ℕ) : Type 0 where
  pub line : List ℕ
  pub rest : List ℕ
  pub left : ℕ
  pub enough : n ≤ left + 65
  pub whole_line : first_line (pieces_of 10 text) ≡ Ok line
  pub whole_cut : pieces_of 10 text ≡ line ∷ pieces_of 10 rest
  pub front_line : first_line (pieces_of 10 (take n text)) ≡ Ok line
  pub front_cut : pieces_of 10 (take n text) ≡ line ∷ pieces_of 10 (take left rest)

-- a front of 65 bytes without an LF makes the line too long
same_long : (n : ℕ) (text front more : List ℕ) → 65 ≤ n → text ≡ front ++ more → Lacks 10 front → length front ≡ 65 → SameFault n text
same_long n text front more enough is lacks long =
    let count : n ≡ length front + (n - 65) = omega (arith, long) in
    let taken : take n text ≡ front ++ take (n - 65) more = ap (take n) is ∙ ap (λ k. take k (front ++ more)) count ∙ take-append-add front more (n - 65) in
    let over : 64 < length front = omega (arith, long) in
    record {
      kind = kind.TooLong;
      whole = ap (λ t. first_line (pieces_of 10 t)) is ∙ front_long front more lacks over;
      front = ap (λ t. first_line (pieces_of 10 t)) taken ∙ front_long front (take (n - 65) more) lacks over;
    }

same_line : PiecesAreCut → (n : ℕ) (text line rest : List ℕ) → 65 ≤ n → IsCut text line rest → length line ≤ 64 → SameLine n text
same_line law n text line rest enough cut short =
    let left : ℕ = n - (length line + 1) in
    let one : length (line ++ 10 ∷ []) ≡ length line + 1 = length-append line (10 ∷ []) in
    let count : n ≡ length (line ++ 10 ∷ []) + (n - (length line + 1)) = omega (arith, one) in
    let split : text ≡ (line ++ 10 ∷ []) ++ rest = cut.is ∙ sym (append_assoc line (10 ∷ []) rest) in
    let taken : take n text ≡ line ++ 10 ∷ take (n - (length line + 1)) rest =
    ap (take n) split ∙ ap (λ k. take k ((line ++ 10 ∷ []) ++ rest)) count ∙ take-append-add (line ++ 10 ∷ []) rest (n - (length line + 1))
    ∙ append_assoc line (10 ∷ []) (take (n - (length line + 1)) rest) in
    record {
      line = line;
      rest = rest;
      left = n - (length line + 1);
      enough = omega arith;
      whole_line = cut_line law text line rest cut.lacks cut.is short;
      whole_cut = cut_rest law text line rest cut.lacks cut.is;
      front_line = cut_line law (take n text) line (take (n - (length line + 1)) rest) cut.lacks taken short;
      front_cut = cut_rest law (take n text) line (take (n - (length line + 1)) rest) cut.lacks taken;
    }

first_same : PiecesAreCut → (n : ℕ) (text : List ℕ) → 65 ≤ n → (take n text ≡ text) ⊎ (SameFault n text ⊎ SameLine n text)
first_same law n text enough = by_length (nat_le (length text) n) refl (cut_of text)
  where
    long_front : (front more : List ℕ) → text ≡ front ++ more → Lacks 10 front → 65 ≤ length front → SameFault n text
    long_front front more is lacks long =
        let whole : text ≡ take 65 front ++ (drop 65 front ++ more) =
        is ∙ ap (λ t. t ++ more) (sym (take-append-drop 65 front)) ∙ append_assoc (take 65 front) (drop 65 front) more in
        same_long n text (take 65 front) (drop 65 front ++ more) enough whole (lacks_take 65 front lacks) (length-take-le 65 front long)

    by_line : (line rest : List ℕ) → IsCut text line rest → (short : Bool) → nat_le (length line) 64 ≡ short → SameFault n text ⊎ SameLine n text
    by_line line rest cut true is =
        let short : length line ≤ 64 = grind (arith, nat_tests) in
        inr (same_line law n text line rest enough cut short)
    by_line line rest cut false is =
        let long : 65 ≤ length line = grind (arith, nat_tests) in
        inl (long_front line (10 ∷ rest) cut.is cut.lacks long)

    by_length : (fits : Bool) → nat_le (length text) n ≡ fits → Lacks 10 text ⊎ ((line : List ℕ) × (rest : List ℕ) × IsCut text line rest)
        → (take n text ≡ text) ⊎ (SameFault n text ⊎ SameLine n text)
    by_length true fits cuts =
        let few : length text ≤ n = grind (arith, nat_tests) in
        inl (take_all n text few)
    by_length false is (inl lacks) =
        let long : 65 ≤ length text = grind (arith, nat_tests) in
        inr (inl (same_long n text (take 65 text) (drop 65 text) enough (sym (take-append-drop 65 text)) (lacks_take 65 text lacks) (length-take-le 65 text long)))
    by_length false is (inr (line, rest, cut)) = inr (by_line line rest cut (nat_le (length line) 64) refl)

-- ---- and its entries

-- the entries of a front and of the text are the same
abbrev SameEntries : Format → ℕ → ℕ → ℕ → List ℕ → Type 0
SameEntries format number room n text = entries_from format number room (pieces_of 10 (take n text)) ≡ entries_from format number room (pieces_of 10 text)

over_same : (n : ℕ) (text : List ℕ) → 1 ≤ n → is_over (pieces_of 10 (take n text)) ≡ is_over (pieces_of 10 text)
over_same n text some = over_where_empty (take n text) ∙ same n text some ∙ sym (over_where_empty text)
  where
    same : (n : ℕ) (text : List ℕ) → 1 ≤ n → (length (take n text) == 0) ≡ (length text == 0)
    same zero text some = absurd (omega arith)
    same (suc n) [] some = refl
    same (suc n) (b ∷ text) some =
        let front : (length (b ∷ take n text) == 0) ≡ false = grind (arith, nat_tests) in
        let whole : (length (b ∷ text) == 0) ≡ false = grind (arith, nat_tests) in
        front ∙ sym whole

module _ (format : Format) (number room n : ℕ) (text : List ℕ) (same : SameLine n text) (more : 1 ≤ same.left) where
  front_pieces : List (List ℕ)
  front_pieces = pieces_of 10 (take same.left same.rest)

  by_end : (end over : Bool) (entry : Option Entry) (some : Bool) → bytes_eq same.line end_line ≡ end → is_over (pieces_of 10 same.rest) ≡ over → entry_of format same.line ≡ entry → nat_lt 0 room ≡ some
      → (nat_lt 0 room ≡ true → SameEntries format (number + 1) (room - 1) same.left same.rest) → SameEntries format number room n text
  by_end true true entry some end over is fits later =
      at_end format number room (pieces_of 10 (take n text)) same.line (pieces_of 10 (take same.left same.rest)) same.front_cut same.front_line end (over_same same.left same.rest more ∙ over)
      ∙ sym (at_end format number room (pieces_of 10 text) same.line (pieces_of 10 same.rest) same.whole_cut same.whole_line end over)
  by_end true false entry some end over is fits later =
      after_end format number room (pieces_of 10 (take n text)) same.line (pieces_of 10 (take same.left same.rest)) same.front_cut same.front_line end (over_same same.left same.rest more ∙ over)
      ∙ sym (after_end format number room (pieces_of 10 text) same.line (pieces_of 10 same.rest) same.whole_cut same.whole_line end over)
  by_end false over None some end at is fits later =
      no_entry format number room (pieces_of 10 (take n text)) same.line (pieces_of 10 (take same.left same.rest)) same.front_cut same.front_line end is
      ∙ sym (no_entry format number room (pieces_of 10 text) same.line (pieces_of 10 same.rest) same.whole_cut same.whole_line end is)
  by_end false over (Some e) false end at is fits later =
      too_many format number room (pieces_of 10 (take n text)) same.line (pieces_of 10 (take same.left same.rest)) same.front_cut same.front_line e end is fits
      ∙ sym (too_many format number room (pieces_of 10 text) same.line (pieces_of 10 same.rest) same.whole_cut same.whole_line e end is fits)
  by_end false over (Some e) true end at is fits later =
      one_more format number room (pieces_of 10 (take n text)) same.line (pieces_of 10 (take same.left same.rest)) same.front_cut same.front_line e end is fits
      ∙ ap (entries_before (e ∷ [])) (later fits)
      ∙ sym (one_more format number room (pieces_of 10 text) same.line (pieces_of 10 same.rest) same.whole_cut same.whole_line e end is fits)

same_step : PiecesAreCut → (format : Format) (number room n : ℕ) (text : List ℕ) → 65 * (room + 1) + 1 ≤ n → ((m : ℕ) (rest : List ℕ) → nat_lt 0 room ≡ true → n ≤ m + 65 → SameEntries format (number + 1) (room - 1) m rest)
    → SameEntries format number room n text
same_step law format number room n text enough later = by_first (first_same law n text (omega arith))
  where
    by_first : (take n text ≡ text) ⊎ (SameFault n text ⊎ SameLine n text) → SameEntries format number room n text
    by_first (inl whole) = ap (λ t. entries_from format number room (pieces_of 10 t)) whole
    by_first (inr (inl fault)) =
        no_line format number room (pieces_of 10 (take n text)) fault.kind fault.front ∙ sym (no_line format number room (pieces_of 10 text) fault.kind fault.whole)
    by_first (inr (inr same)) =
        by_end format number room n text same (omega (arith, same.enough, enough)) (bytes_eq same.line end_line) (is_over (pieces_of 10 same.rest)) (entry_of format same.line) (nat_lt 0 room) refl refl refl refl
        (λ some. later same.left same.rest some same.enough)

entries_same : PiecesAreCut → (format : Format) (fuel number room n : ℕ) (text : List ℕ) → room ≤ fuel → 65 * (room + 1) + 1 ≤ n → SameEntries format number room n text
entries_same law format zero number room n text few enough =
    same_step law format number room n text enough (λ m rest some within. let more : 0 < room = grind (arith, nat_tests) in absurd (omega (arith, more, few)))
entries_same law format (suc fuel) number room n text few enough =
    same_step law format number room n text enough
    (λ m rest some within.
    let more : 0 < room = grind (arith, nat_tests) in
    entries_same law format fuel (number + 1) (room - 1) m rest (omega (arith, more, few)) (omega (arith, more, enough, within)))

-- ---- the whole

-- a plan that is read has room for so many
room_of_plan : (format : Format) (line : List ℕ) (n : Numbers) → plan_of format line ≡ Ok n → most_entries n ≤ 1_016_384
unfolding plan_of
room_of_plan format line n read = by_numbers (numbers_of format (words_of line)) read
  where
    by_range : (m : Numbers) (fits : Bool) → is_plan m ≡ fits → (want fits kind.PlanRange >>= λ _. Ok m) ≡ Ok n → most_entries n ≤ 1_016_384
    by_range m true fits is =
        let steps : m.steps ≤ 1_000_000 = grind (arith, nat_tests) in
        let arms : m.arms ≤ 4096 = grind (arith, nat_tests) in
        let same : m ≡ n = cc in
        subst (λ (k : Numbers). most_entries k ≤ 1_016_384) same (omega arith)
    by_range m false fits is = cc

    by_numbers : (o : Option Numbers) → (ok_or o kind.PlanLine >>= λ m. want (is_plan m) kind.PlanRange >>= λ _. Ok m) ≡ Ok n → most_entries n ≤ 1_016_384
    by_numbers None is = cc
    by_numbers (Some m) is = by_range m (is_plan m) refl is

header_same : (n : ℕ) (text : List ℕ) → SameLine n text → header_in (pieces_of 10 (take n text)) ≡ header_in (pieces_of 10 text)
header_same n text same = ap (λ r. r >>= format_of) (same.front_line ∙ sym same.whole_line)

plan_same : (format : Format) (n : ℕ) (text : List ℕ) → SameLine n text → plan_in format (pieces_of 10 (take n text)) ≡ plan_in format (pieces_of 10 text)
plan_same format n text same = ap (λ r. r >>= plan_of format) (same.front_line ∙ sym same.whole_line)

plan_line_in : (format : Format) (lines : List (List ℕ)) (line : List ℕ) (n : Numbers) → first_line lines ≡ Ok line → plan_in format lines ≡ Ok n → plan_of format line ≡ Ok n
plan_line_in format lines line n is read = sym (ap (λ r. r >>= plan_of format) is) ∙ read

-- the lines after the first
after_first : (lines : List (List ℕ)) (line : List ℕ) (more : List (List ℕ)) → lines ≡ line ∷ more → more ≡ drop 1 lines
after_first lines line more is = sym (ap (drop 1) is)

-- a front of 66,065,156 bytes says what the text says
pub schedule_same : PiecesAreCut → (n : ℕ) (text : List ℕ) → 66_065_156 ≤ n → schedule_of (take n text) ≡ schedule_of text
unfolding schedule_of schedule_in
schedule_same law n text enough = by_first (first_same law n text (omega arith))
  where
    by_first : (take n text ≡ text) ⊎ (SameFault n text ⊎ SameLine n text) → schedule_of (take n text) ≡ schedule_of text
    by_first (inl whole) = ap schedule_of whole
    by_first (inr (inl fault)) =
        let front = ap (λ r. r >>= format_of) fault.front in
        let whole = ap (λ r. r >>= format_of) fault.whole in
        header_fault (take n text) fault.kind front ∙ sym (header_fault text fault.kind whole)
    by_first (inr (inr same)) = by_header (header_in (pieces_of 10 text)) refl
      where
        front_rest : pieces_of 10 (take same.left same.rest) ≡ drop 1 (pieces_of 10 (take n text))
        front_rest = after_first (pieces_of 10 (take n text)) same.line (pieces_of 10 (take same.left same.rest)) same.front_cut

        whole_rest : pieces_of 10 same.rest ≡ drop 1 (pieces_of 10 text)
        whole_rest = after_first (pieces_of 10 text) same.line (pieces_of 10 same.rest) same.whole_cut

        by_entries : (format : Format) (p : Numbers) (second : SameLine same.left same.rest) (r : Result (List Entry) ScheduleFault) → header_in (pieces_of 10 text) ≡ Ok format → plan_in format (pieces_of 10 same.rest) ≡ Ok p
            → entries_from format 3 (most_entries p) (pieces_of 10 second.rest) ≡ r → schedule_of (take n text) ≡ schedule_of text
        by_entries format p second r header plan entries =
            let few = room_of_plan format second.line p (plan_line_in format (pieces_of 10 same.rest) second.line p second.whole_line plan) in
            let left : 65 * (most_entries p + 1) + 1 ≤ second.left = omega (arith, few, enough, same.enough, second.enough) in
            let there = entries_same law format (most_entries p) 3 (most_entries p) second.left second.rest (omega arith) left in
            let front_header = header_same n text same ∙ header in
            let front_plan = plan_same format same.left same.rest second ∙ plan in
            let front_more = after_first (pieces_of 10 (take same.left same.rest)) second.line (pieces_of 10 (take second.left second.rest)) second.front_cut in
            let whole_more = after_first (pieces_of 10 same.rest) second.line (pieces_of 10 second.rest) second.whole_cut in
            by_answer r entries there front_header front_plan front_more whole_more
          where
            by_answer : (r : Result (List Entry) ScheduleFault) → entries_from format 3 (most_entries p) (pieces_of 10 second.rest) ≡ r
                → entries_from format 3 (most_entries p) (pieces_of 10 (take second.left second.rest)) ≡ entries_from format 3 (most_entries p) (pieces_of 10 second.rest)
                → header_in (pieces_of 10 (take n text)) ≡ Ok format → plan_in format (pieces_of 10 (take same.left same.rest)) ≡ Ok p
                → pieces_of 10 (take second.left second.rest) ≡ drop 1 (pieces_of 10 (take same.left same.rest)) → pieces_of 10 second.rest ≡ drop 1 (pieces_of 10 same.rest)
                → schedule_of (take n text) ≡ schedule_of text
            by_answer (Err fault) is there front_header front_plan front_more whole_more =
                whole_fault format (take n text) (pieces_of 10 (take same.left same.rest)) (pieces_of 10 (take second.left second.rest)) p front_header front_rest front_plan front_more (most_entries p) fault refl (there ∙ is)
                ∙ sym (whole_fault format text (pieces_of 10 same.rest) (pieces_of 10 second.rest) p header whole_rest plan whole_more (most_entries p) fault refl is)
            by_answer (Ok all) is there front_header front_plan front_more whole_more =
                whole_read format (take n text) (pieces_of 10 (take same.left same.rest)) (pieces_of 10 (take second.left second.rest)) p front_header front_rest front_plan front_more (most_entries p) all refl (there ∙ is)
                ∙ sym (whole_read format text (pieces_of 10 same.rest) (pieces_of 10 second.rest) p header whole_rest plan whole_more (most_entries p) all refl is)

        by_plan : (format : Format) (r : Result Numbers ScheduleKind) (second : SameLine same.left same.rest) → header_in (pieces_of 10 text) ≡ Ok format → plan_in format (pieces_of 10 same.rest) ≡ r → schedule_of (take n text) ≡ schedule_of text
        by_plan format (Ok p) second header plan = by_entries format p second (entries_from format 3 (most_entries p) (pieces_of 10 second.rest)) header plan refl
        by_plan format (Err k) second header plan =
            plan_fault format (take n text) (pieces_of 10 (take same.left same.rest)) k (header_same n text same ∙ header) front_rest (plan_same format same.left same.rest second ∙ plan)
            ∙ sym (plan_fault format text (pieces_of 10 same.rest) k header whole_rest plan)

        by_second : (format : Format) → header_in (pieces_of 10 text) ≡ Ok format → (take same.left same.rest ≡ same.rest) ⊎ (SameFault same.left same.rest ⊎ SameLine same.left same.rest) → schedule_of (take n text) ≡ schedule_of text
        by_second format header (inl whole) =
            ap schedule_in (same.front_cut ∙ ap (λ t. same.line ∷ pieces_of 10 t) whole ∙ sym same.whole_cut)
        by_second format header (inr (inl fault)) =
            plan_fault format (take n text) (pieces_of 10 (take same.left same.rest)) fault.kind (header_same n text same ∙ header) front_rest (ap (λ r. r >>= plan_of format) fault.front)
            ∙ sym (plan_fault format text (pieces_of 10 same.rest) fault.kind header whole_rest (ap (λ r. r >>= plan_of format) fault.whole))
        by_second format header (inr (inr second)) = by_plan format (plan_in format (pieces_of 10 same.rest)) second header refl

        by_header : (r : Result Format ScheduleKind) → header_in (pieces_of 10 text) ≡ r → schedule_of (take n text) ≡ schedule_of text
        by_header (Ok format) header = by_second format header (first_same law same.left same.rest (omega (arith, enough, same.enough)))
        by_header (Err k) header = header_fault (take n text) k (header_same n text same ∙ header) ∙ sym (header_fault text k header)

-- ---- what was read says what the text says

pub text_front : (o : Option (List ℕ)) (bytes text : List ℕ) → text ≡ bytes → IfSome o (λ known. (n : ℕ) × (67_108_864 ≤ n) × (bytes ≡ take n known)) → IfSome o (λ known. (n : ℕ) × (67_108_864 ≤ n) × (text ≡ take n known))
text_front None bytes text same front = tt
text_front (Some known) bytes text same (n, enough, taken) = (n, enough, same ∙ taken)

ok_known : PiecesAreCut → (o : Option (List ℕ)) (text : List ℕ) → IfSome o (λ known. (n : ℕ) × (67_108_864 ≤ n) × (text ≡ take n known)) → (s : Schedule) → schedule_of text ≡ Ok s → IfSome o (λ known. schedule_of known ≡ Ok s)
ok_known law None text front s is = tt
ok_known law (Some known) text (n, enough, taken) s is = sym (schedule_same law n known (omega arith)) ∙ ap schedule_of (sym taken) ∙ is

fault_known : PiecesAreCut → (o : Option (List ℕ)) (text : List ℕ) → IfSome o (λ known. (n : ℕ) × (67_108_864 ≤ n) × (text ≡ take n known)) → (fault : ScheduleFault) → IsToldFault (schedule_of text) fault
    → IfSome o (λ known. IsToldFault (schedule_of known) fault)
fault_known law None text front fault is = tt
fault_known law (Some known) text (n, enough, taken) fault is =
    let same : schedule_of text ≡ schedule_of known = ap schedule_of taken ∙ schedule_same law n known (omega arith) in
    subst (λ (r : Result Schedule ScheduleFault). IsToldFault r fault) same is

module _ (law : PiecesAreCut) (o : Option (List ℕ)) (text : List ℕ) (front : IfSome o (λ known. (n : ℕ) × (67_108_864 ≤ n) × (text ≡ take n known))) where
  pub read_same : {A E : Type 0} (r : Result A E) (said : A → Schedule) → IfOk r (λ a. schedule_of text ≡ Ok (said a)) → IfOk r (λ a. IfSome o (λ known. schedule_of known ≡ Ok (said a)))
  read_same (Err fault) said is = tt
  read_same (Ok a) said is = ok_known law o text front (said a) is

  pub fault_same : {A : Type 0} (r : Result A ScheduleFault) → IfErr r (IsToldFault (schedule_of text)) → IfErr r (λ fault. IfSome o (λ known. IsToldFault (schedule_of known) fault))
  fault_same (Ok a) is = tt
  fault_same (Err fault) is = fault_known law o text front fault is
