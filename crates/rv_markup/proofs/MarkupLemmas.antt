-- One piece more of a markup.
use Rattle.std.proofs.Common.{◌≡◌, ℕ, List, [], ◌∷◌, ◌++◌, reverse, ap, ◌∙◌}
use Rattle.std.proofs.lemmas.List.{reverse-append}
use Rattle.rv_markup.specs.Markup.{IsMarkup, Piece, behind, piece_text, told, written}
use Rattle.rv_markup.specs.declared.markup.Fact.{Fact}
use Rattle.rv_markup.specs.declared.tag.Tag.{Tag}

pub with_piece : {text text' : List ℕ} {begun begun' : List Tag} {facts facts' : List Fact} → (piece : Piece) → IsMarkup text begun facts → text' ≡ text ++ piece_text begun piece → begun' ≡ behind piece begun → facts' ≡ told piece ++ facts → IsMarkup text' begun' facts'
with_piece {text} {text'} {begun} {begun'} {facts} {facts'} piece old is_text is_begun are_facts = record {
  pieces = piece ∷ old.pieces;
  text_is = is_text ∙ ap (λ t. t ++ piece_text begun piece) old.text_is ∙ ap (λ b. written old.pieces ++ piece_text b piece) old.begun_is;
  begun_is = is_begun ∙ ap (behind piece) old.begun_is;
  facts_are = are_facts ∙ ap (λ f. told piece ++ f) old.facts_are;
}

-- the last of a list is the first of it backwards
pub last_first : {A : Type 0} → (xs ys : List A) (x : A) → ys ≡ xs ++ x ∷ [] → reverse ys ≡ x ∷ reverse xs
last_first xs ys x h = ap reverse h ∙ reverse-append xs (x ∷ [])
