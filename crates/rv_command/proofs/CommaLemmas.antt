-- The pieces of a text with commas.
use Rattle.std.proofs.Common.{◌≡◌, ℕ, ◌+◌, List, [], ◌∷◌, None, length, arith, refl}
use Rattle.std.proofs.lemmas.List.Splits.{length-slice_split, slice_split_none}
use Rattle.std.proofs.lemmas.List.Sums.{fails_before_first}
use Rattle.std.specs.Prelude.{◌==◌}
use Rattle.std.specs.List.{count_by, position_or_len}
use Rattle.rv_text.specs.Pieces.{pieces_of}
use Rattle.rv_command.specs.HuntLine.{sides_by}

pub one_piece : (text : List ℕ) → position_or_len (λ b. b == 44) text ≡ length text → pieces_of 44 text ≡ text ∷ []
one_piece text none = slice_split_none (λ b. b == 44) text (λ k d below. fails_before_first (λ b. b == 44) text k d (omega (arith, none, below)))

pub too_many : (one other text : List ℕ) → sides_by (one ∷ other ∷ pieces_of 44 text) ≡ None
too_many one other text = go (pieces_of 44 text) (length-slice_split (λ b. b == 44) text)
  where
    go : (pieces : List (List ℕ)) → length pieces ≡ count_by (λ b. b == 44) text + 1 → sides_by (one ∷ other ∷ pieces) ≡ None
    go [] some = absurd (omega (arith, some))
    go (piece ∷ pieces) some = refl
