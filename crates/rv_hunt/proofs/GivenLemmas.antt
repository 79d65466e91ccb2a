-- UTF-8, as a test.
use Rattle.std.proofs.Common.{◌≡◌, ℕ, true, false, List, inl, inr}
use Rattle.std.specs.Str.{IsUtf8, is_utf8}
use Rattle.std.proofs.lemmas.Str.{IsUtf8-from_is_utf8, is_utf8-from_IsUtf8}
use Rattle.std.proofs.lemmas.Bool.{cases_Bool}

pub from_utf8 : (bytes : List ℕ) → IsUtf8 bytes → is_utf8 bytes ≡ true
from_utf8 bytes h = is_utf8-from_IsUtf8 bytes h

pub not_utf8 : (bytes : List ℕ) → ¬ (IsUtf8 bytes) → is_utf8 bytes ≡ false
not_utf8 bytes h =
    elim (cases_Bool (is_utf8 bytes)) [ inl t ↦ absurd (h (IsUtf8-from_is_utf8 bytes t)) | inr f ↦ f ]
