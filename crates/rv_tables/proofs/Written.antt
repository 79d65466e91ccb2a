-- A table written line by line.
use Rattle.std.proofs.Common.{◌≡◌, ℕ, List, [], ◌∷◌, ◌++◌, Option, Result, Ok, Err, OnOk, codes, map, subst, append_assoc, ap, sym, ◌∙◌}
use Rattle.std.specs.Io.KnownBytes.{Appends}
use Rattle.std.proofs.KnownBytes.{Appends-trans}
use Rattle.std.proofs.lemmas.List.{map-append}
use Rattle.rv_collide.specs.Texts.{values_text}
use Rattle.rv_races.specs.Classes.{class_word}
use Rattle.rv_tables.specs.HuntText.{count_text, row_line, verdict_word}
use Rattle.rv_tables.specs.declared.row.RaceRow.{RaceRow}
use Rattle.rv_report.specs.TableText.{key_text}
use Rattle.rv_report.specs.declared.key.Key.{Key}

row_is : (key : Key) (row : RaceRow) → (((key_text key ++ count_text row) ++ verdict_word key.second) ++ values_text row.old row.new) ++ ((codes " " ++ class_word row.class) ++ 10 ∷ []) ≡ row_line (key, row) ++ 10 ∷ []
unfolding row_line
row_is key row =
    sym (append_assoc (((key_text key ++ count_text row) ++ verdict_word key.second) ++ values_text row.old row.new) (codes " " ++ class_word row.class) (10 ∷ []))

-- a row in the order of writing
pub row_written : {T E : Type 0} (key : Key) (row : RaceRow) (r : Result T E) (a b c d f g : Option (List ℕ)) → Appends a b (key_text key) → Appends b c (count_text row)
    → Appends c d (verdict_word key.second) → Appends d f (values_text row.old row.new) → OnOk r (Appends f g ((codes " " ++ class_word row.class) ++ 10 ∷ [])) → OnOk r (Appends a g (row_line (key, row) ++ 10 ∷ []))
row_written key row (Err fault) a b c d f g front count verdict values last = tt
row_written key row (Ok value) a b c d f g front count verdict values last =
    let to_verdict = Appends-trans a b c _ _ front count in
    let to_values = Appends-trans a c d _ _ to_verdict verdict in
    let to_class = Appends-trans a d f _ _ to_values values in
    subst (Appends a g) (row_is key row) (Appends-trans a f g _ _ to_class last)

-- the items so far and those that are left are all of them
pub left_next : {A B : Type 0} (g : A → B) (xs : List A) (x : A) (before after all : List B) → before ≡ g x ∷ after → map g xs ++ before ≡ all → map g (xs ++ x ∷ []) ++ after ≡ all
left_next g xs x before after all step left =
    ap (λ l. l ++ after) (map-append g xs (x ∷ [])) ∙ append_assoc (map g xs) (g x ∷ []) after ∙ sym (ap (λ l. map g xs ++ l) step) ∙ left
