-- The words of a line up to its comment.
use Rattle.std.proofs.Common.{◌≡◌, ℕ, Bool, true, false, not, List, [], ◌∷◌, Some, None, filter, refl, ap, ◌∙◌}
use Rattle.std.specs.Prelude.{cond, drop, slice_get}
use Rattle.std.specs.List.{take_while}
use Rattle.std.proofs.lemmas.List.Sums.{take_while-cons}
use Rattle.rv_tables.proofs.IgnoreLemmas.{first_and_others, none_left}
use Rattle.rv_tables.specs.merge.Ignore.{begins_comment, has_bytes, said_words}

abbrev says : List ℕ → Bool
says word = not (begins_comment word)

pub none_said : (pieces : List (List ℕ)) → None ≡ slice_get (filter has_bytes pieces) 0 → said_words pieces ≡ []
none_said pieces none = ap (take_while says) (none_left (filter has_bytes pieces) none)

next_is : (pieces after : List (List ℕ)) (word : List ℕ) → Some word ≡ slice_get (filter has_bytes pieces) 0 → filter has_bytes after ≡ drop 1 (filter has_bytes pieces) → said_words pieces ≡ cond (says word) (word ∷ said_words after) []
next_is pieces after word first rest =
    ap (take_while says) (first_and_others (filter has_bytes pieces) (filter has_bytes after) word first rest) ∙ take_while-cons says word (filter has_bytes after)

pub comment_said : (pieces after : List (List ℕ)) (word : List ℕ) → Some word ≡ slice_get (filter has_bytes pieces) 0 → filter has_bytes after ≡ drop 1 (filter has_bytes pieces) → begins_comment word ≡ true → said_words pieces ≡ []
comment_said pieces after word first rest begins =
    next_is pieces after word first rest ∙ ap (λ (b : Bool). cond (not b) (word ∷ said_words after) []) begins

pub word_said : (pieces after : List (List ℕ)) (word : List ℕ) → Some word ≡ slice_get (filter has_bytes pieces) 0 → filter has_bytes after ≡ drop 1 (filter has_bytes pieces) → begins_comment word ≡ false → said_words pieces ≡ word ∷ said_words after
word_said pieces after word first rest other =
    next_is pieces after word first rest ∙ ap (λ (b : Bool). cond (not b) (word ∷ said_words after) []) other
