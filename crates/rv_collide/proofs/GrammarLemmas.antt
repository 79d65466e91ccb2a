-- What a schedule's text is made of.
use Rattle.std.proofs.Common.{◌≡◌, ℕ, List, [], ◌∷◌, ◌++◌, map, codes, refl, ap, sym, ◌∙◌, append_assoc, append-nil, subst, Option, Result, Ok, Err, OnOk}
use Rattle.std.specs.List.{flat_map}
use Rattle.std.specs.Fmt.{decimal}
use Rattle.std.specs.Io.KnownBytes.{Appends}
use Rattle.std.proofs.KnownBytes.{Appends-trans}
use Rattle.std.proofs.lemmas.Grind.{flat_map-append}
use Rattle.rv_text.specs.Lines.{text_of_lines}
use Rattle.rv_collide.specs.Grammar.{header_line, numbers_line, plan_line, entry_line, end_line, text_in}
use Rattle.rv_collide.specs.Plan.{Numbers}
use Rattle.rv_collide.specs.declared.entry.Entry.{Entry}
use Rattle.rv_collide.specs.declared.schedule.format.Format.{Format}
use Rattle.rv_collide.specs.declared.schedule.format.Format.TheVariants.{Second}

-- the lines of entries, an LF after each
abbrev pub entries_text : List Entry → List ℕ
entries_text entries = flat_map (λ entry. entry_line entry ++ 10 ∷ []) entries

lines_of_entries : (entries : List Entry) → text_of_lines (map entry_line entries) ≡ entries_text entries
lines_of_entries [] = refl
lines_of_entries (entry ∷ entries) = ap (λ text. (entry_line entry ++ 10 ∷ []) ++ text) (lines_of_entries entries)

-- the text in the order of writing
pub schedule_is : (format : Format) (n : Numbers) (entries : List Entry) → text_in format n entries ≡ (header_line format ++ 10 ∷ []) ++ ((plan_line format n ++ 10 ∷ []) ++ (entries_text entries ++ codes "end\n"))
unfolding text_in
schedule_is format n entries =
    let rest = flat_map-append (λ line. line ++ 10 ∷ []) (map entry_line entries) (end_line ∷ []) ∙ ap (λ text. text ++ codes "end\n") (lines_of_entries entries) in
    ap (λ text. (header_line format ++ 10 ∷ []) ++ ((plan_line format n ++ 10 ∷ []) ++ text)) rest

pub schedule_written : (n : Numbers) (entries : List Entry) (a b c d e : Option (List ℕ)) → Appends a b (codes "rvcollide schedule 2\n") → Appends b c (plan_line Second n ++ 10 ∷ [])
    → Appends c d (entries_text entries) → Appends d e (codes "end\n") → Appends a e (text_in Second n entries)
schedule_written n entries a b c d e header plan lines end =
    let last = Appends-trans c d e (entries_text entries) (codes "end\n") lines end in
    let more = Appends-trans b c e (plan_line Second n ++ 10 ∷ []) (entries_text entries ++ codes "end\n") plan last in
    subst (Appends a e) (sym (schedule_is Second n entries)) (Appends-trans a b e (codes "rvcollide schedule 2\n") _ header more)

pub schedule_written_then : {T E : Type 0} (n : Numbers) (entries : List Entry) (r : Result T E) (a b c d e : Option (List ℕ)) → Appends a b (codes "rvcollide schedule 2\n") → Appends b c (plan_line Second n ++ 10 ∷ [])
    → Appends c d (entries_text entries) → OnOk r (Appends d e (codes "end\n")) → OnOk r (Appends a e (text_in Second n entries))
schedule_written_then n entries (Ok value) a b c d e header plan lines end = schedule_written n entries a b c d e header plan lines end
schedule_written_then n entries (Err fault) a b c d e header plan lines end = tt

-- the plan's line in the order of writing
abbrev front_text : (harts steps : List ℕ) → List ℕ
front_text harts steps = codes "harts " ++ (harts ++ (codes " steps " ++ (steps ++ [])))

abbrev middle_text : (arms pause : List ℕ) → List ℕ
middle_text arms pause = codes " arms " ++ (arms ++ (codes " pause " ++ (pause ++ [])))

abbrev last_text : (slots : List ℕ) → List ℕ
last_text slots = codes " slots " ++ (slots ++ (codes "\n" ++ []))

plan_is : (n : Numbers) → front_text (decimal n.harts) (decimal n.steps) ++ (middle_text (decimal n.arms) (decimal n.pause) ++ last_text (decimal n.slots)) ≡ plan_line Second n ++ 10 ∷ []
unfolding numbers_line
plan_is n = simp (append_assoc, append-nil)

pub plan_written_then : {T E : Type 0} (n : Numbers) (r : Result T E) (a b c d : Option (List ℕ)) (harts steps arms pause slots : List ℕ)
    → harts ≡ decimal n.harts → steps ≡ decimal n.steps → arms ≡ decimal n.arms → pause ≡ decimal n.pause → slots ≡ decimal n.slots
    → Appends a b (front_text harts steps) → Appends b c (middle_text arms pause) → OnOk r (Appends c d (last_text slots))
    → OnOk r (Appends a d (plan_line Second n ++ 10 ∷ []))
plan_written_then n (Err fault) a b c d harts steps arms pause slots h s m p l first second third = tt
plan_written_then n (Ok value) a b c d harts steps arms pause slots h s m p l first second third =
    let front = Appends-trans a b d (front_text harts steps) (middle_text arms pause ++ last_text slots) first (Appends-trans b c d (middle_text arms pause) (last_text slots) second third) in
    subst (Appends a d) (plan_is n) (rw (h, s, m, p, l) at front)
