-- One piece more of a JSON text.
use Rattle.std.proofs.Common.{◌≡◌, ℕ, List, [], ◌∷◌, ◌++◌, map, reverse, ap, ◌∙◌}
use Rattle.std.proofs.lemmas.List.{map-append, reverse-append}
use Rattle.json.specs.Token.{Token}
use Rattle.rv_json.specs.Object.{IsPart, Member, Piece, behind, member_of, piece_tokens, told, written}
use Rattle.rv_json.specs.declared.fact.Begun.{Begun}
use Rattle.rv_json.specs.declared.fact.Fact.{Fact}

pub with_piece : {all all' : List Token} {begun begun' : List Begun} {facts facts' : List Member} → (piece : Piece) → IsPart all begun facts → all' ≡ all ++ piece_tokens begun piece → begun' ≡ behind piece begun → facts' ≡ told piece ++ facts → IsPart all' begun' facts'
with_piece {all} {all'} {begun} {begun'} {facts} {facts'} piece old are_tokens are_begun are_facts = record {
  pieces = piece ∷ old.pieces;
  tokens_are = are_tokens ∙ ap (λ t. t ++ piece_tokens begun piece) old.tokens_are ∙ ap (λ b. written old.pieces ++ piece_tokens b piece) old.open_are;
  open_are = are_begun ∙ ap (behind piece) old.open_are;
  facts_are = are_facts ∙ ap (λ f. told piece ++ f) old.facts_are;
}

-- the last of a list is the first of it backwards
pub last_first : {A : Type 0} → (xs ys : List A) (x : A) → ys ≡ xs ++ x ∷ [] → reverse ys ≡ x ∷ reverse xs
last_first xs ys x h = ap reverse h ∙ reverse-append xs (x ∷ [])

pub last_member : (xs ys : List Fact) (x : Fact) → ys ≡ xs ++ x ∷ [] → reverse (map member_of ys) ≡ member_of x ∷ reverse (map member_of xs)
last_member xs ys x h = last_first (map member_of xs) (map member_of ys) (member_of x) (ap (map member_of) h ∙ map-append member_of xs (x ∷ []))
