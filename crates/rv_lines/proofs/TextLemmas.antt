-- Bytes of a line.
use Rattle.std.proofs.Common.{◌≡◌, ℕ, Bool, true, false, List, Result, Ok, Err, refl, sym}
use Rattle.std.specs.Prelude.{is_ok, MatchResult}
use Rattle.std.specs.Str.{IsUtf8, is_utf8}
use Rattle.std.proofs.lemmas.Str.{IsUtf8-from_is_utf8, is_utf8-from_IsUtf8}

not_so : (b : Bool) → (b ≡ true → ⊥) → false ≡ b
not_so true wrong = absurd (wrong refl)
not_so false wrong = refl

pub utf8_by : {A E : Type 0} (bs : List ℕ) (r : Result A E) (P : A → Type 0) (Q : E → Type 0) → MatchResult r P Q
    → ((a : A) → P a → IsUtf8 bs) → ((e : E) → Q e → ¬ (IsUtf8 bs)) → is_ok r ≡ is_utf8 bs
utf8_by bs (Ok a) P Q told right wrong = sym (is_utf8-from_IsUtf8 bs (right a told))
utf8_by bs (Err e) P Q told right wrong = not_so (is_utf8 bs) (λ is. wrong e told (IsUtf8-from_is_utf8 bs is))
