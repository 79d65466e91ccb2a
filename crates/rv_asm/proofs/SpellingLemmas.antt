use Rattle.std.proofs.Common.{◌≡◌, ◌≢◌, ℕ, Bool, true, false, List, [], ◌∷◌, ◌++◌, refl, sym, ◌∙◌, ap}
use Rattle.std.specs.Str.{bytes_eq}
use Rattle.std.proofs.lemmas.Slice.Eq.{bytes_eq-Decides}

pub same_test : (a b : Bool) → (a ≡ true → b ≡ true) → (b ≡ true → a ≡ true) → a ≡ b
same_test true b f g = sym (f refl)
same_test false true f g = g refl
same_test false false f g = refl

append_same : (a x y : List ℕ) → a ++ x ≡ a ++ y → x ≡ y
append_same [] x y is = is
append_same (b ∷ a) x y is = append_same a x y (cc)

-- what follows a prefix is compared with what follows it in another text
pub after_prefix : (text prefix rest suffix : List ℕ) → text ≡ prefix ++ rest → bytes_eq rest suffix ≡ bytes_eq (prefix ++ suffix) text
after_prefix text prefix rest suffix is =
    same_test _ _
    (λ same. (bytes_eq-Decides (prefix ++ suffix) text).1 (ap (λ t. prefix ++ t) (sym ((bytes_eq-Decides rest suffix).0 same)) ∙ sym is))
    (λ same. (bytes_eq-Decides rest suffix).1 (append_same prefix rest suffix (sym is ∙ sym ((bytes_eq-Decides (prefix ++ suffix) text).0 same))))

pub without_prefix : (text prefix suffix : List ℕ) → ((rest : List ℕ) → text ≢ prefix ++ rest) → false ≡ bytes_eq (prefix ++ suffix) text
without_prefix text prefix suffix none =
    same_test _ _ (λ f. cc) (λ same. absurd (none suffix (sym ((bytes_eq-Decides (prefix ++ suffix) text).0 same))))
