use Rattle.std.proofs.Common.{◌≡◌, ℕ, ◌+◌, ◌<◌, ◌≤◌, true, false, List, [], ◌∷◌, ◌++◌, length, get_or, take, drop, refl, sym, ◌∙◌, ap, arith, drop-cons, append_assoc, add-one}
use Rattle.std.proofs.lemmas.List.{take_more}
use Rattle.std.proofs.lemmas.Grind.{common_steps}
use Rattle.rv_asm.specs.Text.{is_stop, before, since}
use Rattle.rv_asm.specs.declared.reading.text.Stop.{Stop}

-- no stop stands before a place
pub record NoneBefore (stop : Stop) (text : List ℕ) (at : ℕ) : Type 0 where
  pub front : before stop text ≡ take at text ++ before stop (drop at text)
  pub back : since stop text ≡ since stop (drop at text)
  pub within : at ≤ length text

front_of : (stop : Stop) (byte : ℕ) (text : List ℕ) → is_stop stop byte ≡ false → before stop (byte ∷ text) ≡ byte ∷ before stop text
front_of stop byte text none = rw none refl

back_of : (stop : Stop) (byte : ℕ) (text : List ℕ) → is_stop stop byte ≡ false → since stop (byte ∷ text) ≡ since stop text
back_of stop byte text none = rw none refl

front_at : (stop : Stop) (byte : ℕ) (text : List ℕ) → is_stop stop byte ≡ true → before stop (byte ∷ text) ≡ []
front_at stop byte text none = rw none refl

back_at : (stop : Stop) (byte : ℕ) (text : List ℕ) → is_stop stop byte ≡ true → since stop (byte ∷ text) ≡ byte ∷ text
back_at stop byte text none = rw none refl

pub NoneBefore-more : (stop : Stop) (text : List ℕ) (at : ℕ) → at < length text → is_stop stop (get_or text at 0) ≡ false → NoneBefore stop text at → NoneBefore stop text (at + 1)
NoneBefore-more stop text at inside none so_far =
    let left : drop at text ≡ get_or text at 0 ∷ drop (at + 1) text = rw (add-one) (drop-cons text at 0 inside) in
    let more = take_more text at 0 inside in
    record {
      front = so_far.front ∙ ap (λ t. take at text ++ before stop t) left ∙ ap (λ t. take at text ++ t) (front_of stop _ _ none)
          ∙ sym (append_assoc (take at text) (get_or text at 0 ∷ []) _) ∙ ap (λ t. t ++ before stop (drop (at + 1) text)) (sym more);
      back = so_far.back ∙ ap (λ t. since stop t) left ∙ back_of stop _ _ none;
      within = omega arith;
    }

-- where the next byte is a stop, or there is none, the text is cut
pub cut_at : (stop : Stop) (text : List ℕ) (at : ℕ) → at < length text → is_stop stop (get_or text at 0) ≡ true → NoneBefore stop text at → (take at text ≡ before stop text) × (drop at text ≡ since stop text)
cut_at stop text at inside here so_far =
    let left : drop at text ≡ get_or text at 0 ∷ drop (at + 1) text = rw (add-one) (drop-cons text at 0 inside) in
    let front : before stop (drop at text) ≡ [] = ap (λ t. before stop t) left ∙ front_at stop _ _ here in
    let back : since stop (drop at text) ≡ drop at text = ap (λ t. since stop t) left ∙ back_at stop _ _ here ∙ sym left in
    (sym (so_far.front ∙ rw front (grind (arith, common_steps))), sym (so_far.back ∙ back))

pub cut_end : (stop : Stop) (text : List ℕ) (at : ℕ) → length text ≤ at → NoneBefore stop text at → (take at text ≡ before stop text) × (drop at text ≡ since stop text)
cut_end stop text at past so_far =
    let left : drop at text ≡ [] = grind (arith, common_steps) in
    let front : before stop (drop at text) ≡ [] = ap (λ t. before stop t) left in
    let back : since stop (drop at text) ≡ drop at text = ap (λ t. since stop t) left ∙ sym left in
    (sym (so_far.front ∙ rw front (grind (arith, common_steps))), sym (so_far.back ∙ back))
