-- Endings written line by line.
use Rattle.std.proofs.Common.{◌≡◌, ℕ, ◌+◌, ◌<◌, List, [], ◌∷◌, ◌++◌, take, length, Option, Result, Ok, Err, OnOk, codes, ap, sym, ◌∙◌, append_assoc, append-nil, subst, zero-add, add-zero, arith}
use Rattle.std.specs.Fmt.{decimal}
use Rattle.std.specs.List.{slice_index_or}
use Rattle.std.specs.Io.KnownBytes.{Appends}
use Rattle.std.proofs.KnownBytes.{Appends-trans}
use Rattle.std.proofs.lemmas.Grind.{flat_map-append}
use Rattle.std.proofs.lemmas.List.{take_more, length-take-le}
use Rattle.std.proofs.lemmas.Option.{get_or_from_slice_get, slice_get_within}
use Rattle.rv_break.specs.declared.claim.Seen.{Seen}
use Rattle.rv_hart.specs.Texts.{access_text}
use Rattle.rv_text.specs.Lines.{text_of_lines}
use Rattle.rv_collide.specs.Grammar.{slot_text}
use Rattle.rv_collide.specs.Texts.{OneEndingMore, ending_line, ending_lines, endings_text, pause_text, seen_text, values_text, verdict_text}
use Rattle.rv_collide.specs.declared.ending.Ending.{Ending}

lines_push : (endings : List Ending) (first : ℕ) (ending : Ending) → ending_lines first endings ++ ending_line (first + length endings) ending ∷ [] ≡ ending_lines first (endings ++ ending ∷ [])
lines_push [] first ending = ap (λ k. ending_line k ending ∷ []) (add-zero first)
lines_push (other ∷ endings) first ending =
    let later : first + length (other ∷ endings) ≡ (first + 1) + length endings = omega arith in
    ap (λ l. ending_line first other ∷ l) (ap (λ k. ending_lines (first + 1) endings ++ ending_line k ending ∷ []) later ∙ lines_push endings (first + 1) ending)

text_push : (lines : List (List ℕ)) (line : List ℕ) → text_of_lines lines ++ (line ++ 10 ∷ []) ≡ text_of_lines (lines ++ line ∷ [])
text_push lines line =
    sym (flat_map-append (λ l. l ++ 10 ∷ []) lines (line ∷ []) ∙ ap (λ l. text_of_lines lines ++ l) (append-nil (line ++ 10 ∷ [])))

-- one line more
pub lines_next : (endings : List Ending) (n : ℕ) (other : Ending) (a b c : Option (List ℕ)) → n < length endings → Appends a b (text_of_lines (ending_lines 0 (take n endings)))
    → Appends b c (ending_line n (slice_index_or endings n other) ++ 10 ∷ []) → Appends a c (text_of_lines (ending_lines 0 (take (n + 1) endings)))
lines_next endings n other a b c inside before next =
    let front = take n endings in
    let ending = slice_index_or endings n other in
    let count : 0 + length front ≡ n = zero-add (length front) ∙ length-take-le n endings (omega arith) in
    let more : front ++ ending ∷ [] ≡ take (n + 1) endings = sym (take_more endings n other inside) in
    let push = ap (λ k. ending_lines 0 front ++ ending_line k ending ∷ []) (sym count) ∙ lines_push front 0 ending ∙ ap (ending_lines 0) more in
    subst (Appends a c) (text_push (ending_lines 0 front) (ending_line n ending) ∙ ap text_of_lines push) (Appends-trans a b c (text_of_lines (ending_lines 0 front)) (ending_line n ending ++ 10 ∷ []) before next)

pub one_ending_more : OneEndingMore
unfolding endings_text
one_ending_more endings n ending there =
    let front = take n endings in
    let inside : n < length endings = slice_get_within endings n ending there in
    let count : 0 + length front ≡ n = zero-add (length front) ∙ length-take-le n endings (omega arith) in
    let more : front ++ ending ∷ [] ≡ take (n + 1) endings = ap (λ e. front ++ e ∷ []) (sym (get_or_from_slice_get endings n ending ending there)) ∙ sym (take_more endings n ending inside) in
    let push = ap (λ k. ending_lines 0 front ++ ending_line k ending ∷ []) (sym count) ∙ lines_push front 0 ending ∙ ap (ending_lines 0) more in
    sym (text_push (ending_lines 0 front) (ending_line n ending) ∙ ap text_of_lines push)

-- a line in the order of writing
pub ending_written : {T E : Type 0} (number : ℕ) (e : Ending) (r : Result T E) (a b c d f g h i : Option (List ℕ)) → Appends a b (pause_text number e) → Appends b c (codes " slot ") → Appends c d (slot_text e.slot)
    → Appends d f (codes " ") → Appends f g (verdict_text e.verdict) → Appends g h (values_text e.old e.new) → OnOk r (Appends h i (codes "\n")) → OnOk r (Appends a i (ending_line number e ++ 10 ∷ []))
unfolding ending_line
ending_written number e (Err fault) a b c d f g h i pause slot_word slot blank verdict values feed = tt
ending_written number e (Ok value) a b c d f g h i pause slot_word slot blank verdict values feed =
    let to_slot = Appends-trans a b c _ _ pause slot_word in
    let to_blank = Appends-trans a c d _ _ to_slot slot in
    let to_verdict = Appends-trans a d f _ _ to_blank blank in
    let to_values = Appends-trans a f g _ _ to_verdict verdict in
    let to_feed = Appends-trans a g h _ _ to_values values in
    Appends-trans a h i _ _ to_feed feed

-- what stands before an access, in the order of writing
abbrev pub hit_text : (place hart : List ℕ) → List ℕ
hit_text place hart = codes "hit " ++ (place ++ (codes " hart " ++ (hart ++ (codes " " ++ []))))

abbrev pub paused_text : (number hart : List ℕ) → List ℕ
paused_text number hart = codes "ending " ++ (number ++ (codes " hart " ++ (hart ++ (codes " " ++ []))))

hit_is : (place hart rest : List ℕ) → hit_text place hart ++ rest ≡ codes "hit " ++ place ++ codes " hart " ++ hart ++ codes " " ++ rest
hit_is place hart rest = simp (append_assoc, append-nil)

paused_is : (number hart rest : List ℕ) → paused_text number hart ++ rest ≡ codes "ending " ++ number ++ codes " hart " ++ hart ++ codes " " ++ rest
paused_is number hart rest = simp (append_assoc, append-nil)

pub seen_written : {T E : Type 0} (seen : Seen) (r : Result T E) (a b c : Option (List ℕ)) (place hart : List ℕ) → place ≡ decimal seen.place → hart ≡ decimal seen.hart
    → Appends a b (hit_text place hart) → OnOk r (Appends b c (access_text seen.access)) → OnOk r (Appends a c (seen_text seen))
seen_written seen (Err fault) a b c place hart p h front access = tt
seen_written seen (Ok value) a b c place hart p h front access =
    let whole = Appends-trans a b c (hit_text place hart) (access_text seen.access) front access in
    subst (Appends a c) (hit_is (decimal seen.place) (decimal seen.hart) (access_text seen.access)) (rw (p, h) at whole)

pub pause_written : {T E : Type 0} (number : ℕ) (e : Ending) (r : Result T E) (a b c : Option (List ℕ)) (digits hart : List ℕ) → digits ≡ decimal number → hart ≡ decimal e.hart
    → Appends a b (paused_text digits hart) → OnOk r (Appends b c (access_text e.access)) → OnOk r (Appends a c (pause_text number e))
pause_written number e (Err fault) a b c digits hart d h front access = tt
pause_written number e (Ok value) a b c digits hart d h front access =
    let whole = Appends-trans a b c (paused_text digits hart) (access_text e.access) front access in
    subst (Appends a c) (paused_is (decimal number) (decimal e.hart) (access_text e.access)) (rw (d, h) at whole)
