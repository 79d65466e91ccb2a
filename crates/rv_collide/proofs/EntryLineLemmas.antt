-- What the words of an entry's line say.
use Rattle.std.proofs.Common.{◌≡◌, ℕ, Option, Some, None, List, [], ◌∷◌, ap, ◌∙◌, sym, drop}
use Rattle.std.specs.Prelude.{slice_get}
use Rattle.rv_collide.specs.ScheduleRead.{entry_in, entry_of, short_entry, words_of}
use Rattle.rv_collide.specs.declared.entry.Entry.{Entry}
use Rattle.rv_collide.specs.declared.schedule.format.Format.{Format}

-- two words and no third
two_words : (words : List (List ℕ)) (name word : List ℕ) → Some name ≡ slice_get words 0 → Some word ≡ slice_get (drop 1 words) 0 → None ≡ slice_get (drop 1 (drop 1 words)) 0
    → words ≡ name ∷ word ∷ []
two_words [] name word first second third = cc
two_words (a ∷ []) name word first second third = cc
two_words (a ∷ b ∷ []) name word first second third = cc
two_words (a ∷ b ∷ d ∷ words) name word first second third = cc

pub short_read : (format : Format) (line : List ℕ) (words second third : List (List ℕ)) (name word : List ℕ) (e : Option Entry) → words ≡ words_of line → Some name ≡ slice_get words 0 → second ≡ drop 1 words
    → Some word ≡ slice_get second 0 → third ≡ drop 1 second → None ≡ slice_get third 0 → e ≡ short_entry name word → e ≡ entry_of format line
unfolding entry_of
short_read format line words second third name word e is first rest next last none read =
    let at_second : Some word ≡ slice_get (drop 1 words) 0 = next ∙ ap (λ l. slice_get l 0) rest in
    let at_third : None ≡ slice_get (drop 1 (drop 1 words)) 0 = none ∙ ap (λ l. slice_get l 0) (last ∙ ap (drop 1) rest) in
    let whole = two_words words name word first at_second at_third in
    read ∙ ap (entry_in format) (sym whole ∙ is)
