-- A table written line by line.
use Rattle.std.proofs.Common.{◌≡◌, ℕ, List, [], ◌∷◌, ◌++◌, Option, Result, Ok, Err, OnOk, codes, map, subst, append_assoc, append-nil, ap, sym, ◌∙◌, length}
use Rattle.std.specs.Fmt.{decimal}
use Rattle.std.specs.Io.KnownBytes.{Appends}
use Rattle.std.proofs.KnownBytes.{Appends-trans}
use Rattle.std.proofs.lemmas.Grind.{flat_map-append}
use Rattle.std.proofs.lemmas.List.{map-append}
use Rattle.rv_collide.specs.Texts.{values_text}
use Rattle.rv_hart.specs.Texts.{access_text}
use Rattle.rv_report.specs.ExhibitText.{exhibit_text, harts_text}
use Rattle.rv_report.specs.Races.{Table}
use Rattle.rv_report.specs.TableText.{key_text, count_text, verdict_name, row_line, races_line, pruned_line, table_text}
use Rattle.rv_report.specs.declared.exhibit.Exhibit.{Exhibit}
use Rattle.rv_report.specs.declared.key.Key.{Key}
use Rattle.rv_report.specs.declared.row.Row.{Row}
use Rattle.rv_text.specs.Lines.{text_of_lines}

-- a row in the order of writing
pub row_written : {T E : Type 0} (key : Key) (row : Row) (r : Result T E) (a b c d f g : Option (List ℕ)) → Appends a b (key_text key) → Appends b c (count_text row)
    → Appends c d (verdict_name row.ending.verdict) → Appends d f (values_text row.ending.old row.ending.new) → OnOk r (Appends f g (codes "\n")) → OnOk r (Appends a g (row_line (key, row) ++ 10 ∷ []))
unfolding row_line
row_written key row (Err fault) a b c d f g front count verdict values feed = tt
row_written key row (Ok value) a b c d f g front count verdict values feed =
    let to_verdict = Appends-trans a b c _ _ front count in
    let to_values = Appends-trans a c d _ _ to_verdict verdict in
    let to_feed = Appends-trans a d f _ _ to_values values in
    Appends-trans a f g _ _ to_feed feed

pruned_is : (named flag counter : ℕ) → (codes "pruned named " ++ (decimal named ++ (codes " flag " ++ (decimal flag ++ [])))) ++ (codes " counter " ++ (decimal counter ++ (codes "\n" ++ []))) ≡ pruned_line named flag counter ++ 10 ∷ []
pruned_is named flag counter = simp (append_assoc, append-nil)

pub pruned_written : {T E : Type 0} (named flag counter : ℕ) (r : Result T E) (a b c : Option (List ℕ)) (n f k : List ℕ) → n ≡ decimal named → f ≡ decimal flag → k ≡ decimal counter
    → Appends a b (codes "pruned named " ++ (n ++ (codes " flag " ++ (f ++ [])))) → OnOk r (Appends b c (codes " counter " ++ (k ++ (codes "\n" ++ [])))) → OnOk r (Appends a c (pruned_line named flag counter ++ 10 ∷ []))
pruned_written named flag counter (Err fault) a b c n f k is_n is_f is_k first second = tt
pruned_written named flag counter (Ok value) a b c n f k is_n is_f is_k first second =
    let both = Appends-trans a b c (codes "pruned named " ++ (n ++ (codes " flag " ++ (f ++ [])))) (codes " counter " ++ (k ++ (codes "\n" ++ []))) first second in
    subst (Appends a c) (pruned_is named flag counter) (rw (is_n, is_f, is_k) at both)

text_push : (lines : List (List ℕ)) (line : List ℕ) → text_of_lines lines ++ (line ++ 10 ∷ []) ≡ text_of_lines (lines ++ line ∷ [])
text_push lines line =
    sym (flat_map-append (λ l. l ++ 10 ∷ []) lines (line ∷ []) ∙ ap (λ l. text_of_lines lines ++ l) (append-nil (line ++ 10 ∷ [])))

-- what is mapped twice over a list with one item more
pub mapped_push : {A B C : Type 0} (f : B → C) (g : A → B) (xs : List A) (x : A) → map f (map g (xs ++ x ∷ [])) ≡ map f (map g xs) ++ f (g x) ∷ []
mapped_push f g xs x = ap (map f) (map-append g xs (x ∷ [])) ∙ map-append f (map g xs) (g x ∷ [])

-- the items so far and those that are left are all of them
pub left_next : {A B : Type 0} (g : A → B) (xs : List A) (x : A) (before after all : List B) → before ≡ g x ∷ after → map g xs ++ before ≡ all → map g (xs ++ x ∷ []) ++ after ≡ all
left_next g xs x before after all step left =
    ap (λ l. l ++ after) (map-append g xs (x ∷ [])) ∙ append_assoc (map g xs) (g x ∷ []) after ∙ sym (ap (λ l. map g xs ++ l) step) ∙ left

-- one line more
pub lines_next : (lines : List (List ℕ)) (line : List ℕ) (a b c : Option (List ℕ)) → Appends a b (text_of_lines lines) → Appends b c (line ++ 10 ∷ []) → Appends a c (text_of_lines (lines ++ line ∷ []))
lines_next lines line a b c before next =
    subst (Appends a c) (text_push lines line) (Appends-trans a b c (text_of_lines lines) (line ++ 10 ∷ []) before next)

table_is : (table : Table) → ((races_line (length table.rows) ++ 10 ∷ []) ++ text_of_lines (map row_line table.rows)) ++ (pruned_line table.named table.flag table.counter ++ 10 ∷ []) ≡ table_text table
unfolding table_text
table_is table = text_push (races_line (length table.rows) ∷ map row_line table.rows) (pruned_line table.named table.flag table.counter)

pub table_written : {T E : Type 0} (table : Table) (r : Result T E) (a b c d : Option (List ℕ)) → Appends a b (races_line (length table.rows) ++ 10 ∷ []) → Appends b c (text_of_lines (map row_line table.rows))
    → OnOk r (Appends c d (pruned_line table.named table.flag table.counter ++ 10 ∷ [])) → OnOk r (Appends a d (table_text table))
table_written table (Err fault) a b c d races rows pruned = tt
table_written table (Ok value) a b c d races rows pruned =
    let front = Appends-trans a b c (races_line (length table.rows) ++ 10 ∷ []) (text_of_lines (map row_line table.rows)) races rows in
    subst (Appends a d) (table_is table) (Appends-trans a c d _ _ front pruned)

-- a line of two texts, piece by piece
pub line_written : {T E : Type 0} (word text : List ℕ) (r : Result T E) (a b c d : Option (List ℕ)) → Appends a b word → Appends b c text → OnOk r (Appends c d (codes "\n"))
    → OnOk r (Appends a d ((word ++ text) ++ 10 ∷ []))
line_written word text (Err fault) a b c d first second feed = tt
line_written word text (Ok value) a b c d first second feed = Appends-trans a c d (word ++ text) (codes "\n") (Appends-trans a b c word text first second) feed

-- an exhibit in the order of writing
exhibit_is : (shown : Exhibit)
    → ((codes "first " ++ access_text shown.first) ++ 10 ∷ []) ++ (((codes "second " ++ access_text shown.second) ++ 10 ∷ []) ++ ((codes "steps" ++ harts_text shown.harts.items) ++ 10 ∷ [])) ≡ exhibit_text shown
unfolding exhibit_text
exhibit_is shown =
    ap (λ steps. ((codes "first " ++ access_text shown.first) ++ 10 ∷ []) ++ (((codes "second " ++ access_text shown.second) ++ 10 ∷ []) ++ steps))
    (sym (append-nil ((codes "steps" ++ harts_text shown.harts.items) ++ 10 ∷ [])))

pub exhibit_written : {T E : Type 0} (shown : Exhibit) (r : Result T E) (a b c d e f : Option (List ℕ)) → Appends a b ((codes "first " ++ access_text shown.first) ++ 10 ∷ [])
    → Appends b c ((codes "second " ++ access_text shown.second) ++ 10 ∷ []) → Appends c d (codes "steps") → Appends d e (harts_text shown.harts.items) → OnOk r (Appends e f (codes "\n"))
    → OnOk r (Appends a f (exhibit_text shown))
exhibit_written shown (Err fault) a b c d e f first second steps harts feed = tt
exhibit_written shown (Ok value) a b c d e f first second steps harts feed =
    let list = Appends-trans c e f _ _ (Appends-trans c d e _ _ steps harts) feed in
    subst (Appends a f) (exhibit_is shown) (Appends-trans a b f _ _ first (Appends-trans b c f _ _ second list))
