-- Which ends are as they should be, one more code and one more end.
use Rattle.std.proofs.Common.{◌≡◌, ℕ, ◌+◌, ◌<◌, Bool, List, [], ◌∷◌, ◌++◌, length, take, get_or, Option, None, Some, refl, sym, ap, ◌∙◌, append-nil, append_assoc}
use Rattle.std.specs.Prelude.{filter_map, ◌||◌}
use Rattle.std.specs.List.{cons_option, list_any}
use Rattle.std.specs.Option.{option_to_list}
use Rattle.std.proofs.Math.Bool.{or_assoc}
use Rattle.std.proofs.lemmas.List.Folds.{list_any_more}
use Rattle.rv_search.specs.RightEnds.{EndsSeen, code_of, is_wrong_end}
use Rattle.rv_search.specs.declared.end.End.{End}

consed : {Y : Type 0} (o : Option Y) (ys : List Y) → cons_option o ys ≡ option_to_list o ++ ys
consed None ys = refl
consed (Some y) ys = refl

pub code_next : (codes more all : List ℕ) (pieces rest : List (List ℕ)) (piece : List ℕ) → pieces ≡ piece ∷ rest → more ≡ codes ++ option_to_list (code_of piece) → codes ++ filter_map code_of pieces ≡ all → more ++ filter_map code_of rest ≡ all
code_next codes more all pieces rest piece are added so_far =
    ap (λ (cs : List ℕ). cs ++ filter_map code_of rest) added
    ∙ append_assoc codes (option_to_list (code_of piece)) (filter_map code_of rest)
    ∙ ap (λ (cs : List ℕ). codes ++ cs) (sym (consed (code_of piece) (filter_map code_of rest)))
    ∙ ap (λ (ps : List (List ℕ)). codes ++ filter_map code_of ps) (sym are)
    ∙ so_far

pub codes_all : (codes all : List ℕ) (pieces : List (List ℕ)) → pieces ≡ [] → codes ++ filter_map code_of pieces ≡ all → codes ≡ all
codes_all codes all pieces none so_far =
    sym (append-nil codes) ∙ ap (λ (ps : List (List ℕ)). codes ++ filter_map code_of ps) (sym none) ∙ so_far

pub wrong_next : (ends : List End) (i : ℕ) (d : End) (old before after : EndsSeen) → i < length ends → before ≡ record old { is_wrong = old.is_wrong || list_any (is_wrong_end old.right) (take i ends) }
    → after ≡ record before { is_wrong = before.is_wrong || is_wrong_end before.right (get_or ends i d) } → after ≡ record old { is_wrong = old.is_wrong || list_any (is_wrong_end old.right) (take (i + 1) ends) }
wrong_next ends i d old before after below so_far next =
    next
    ∙ ap (λ (e : EndsSeen). record e { is_wrong = e.is_wrong || is_wrong_end e.right (get_or ends i d) }) so_far
    ∙ ap (λ (b : Bool). record old { is_wrong = b }) (or_assoc old.is_wrong (list_any (is_wrong_end old.right) (take i ends)) (is_wrong_end old.right (get_or ends i d)))
    ∙ ap (λ (b : Bool). record old { is_wrong = old.is_wrong || b }) (sym (list_any_more (is_wrong_end old.right) ends i d below))
