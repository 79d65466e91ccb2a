-- The lists of a command line, as references and as texts.
use Rattle.std.proofs.Common.{◌≡◌, ℕ, zero, suc, ◌≤◌, ◌<◌, Bool, true, false, cond, List, [], ◌∷◌, ◌++◌, length, append_assoc, get_or, map, Option, Some, None, Ok, Err, refl, sym, ap, ◌∙◌, arith}
use Rattle.std.specs.Borrow.{Bor}
use Rattle.std.specs.Prelude.{◌≢◌, ◌==◌, nat_lt, find, slice_get, option_map, filter_map, position}
use Rattle.std.specs.List.{All, cons_option, position_or_len}
use Rattle.std.proofs.lemmas.List.Splits.{slice_split_at, slice_split_none}
use Rattle.std.proofs.lemmas.Bool.Decides.{nat_tests}
use Rattle.std.proofs.lemmas.List.{length-map, map-append}
use Rattle.std.proofs.lemmas.List.Folds.{find_at}
use Rattle.std.proofs.lemmas.List.Quantifiers.{position-Some}
use Rattle.std.proofs.lemmas.Option.{get_or_from_slice_get, slice_get-get_or, slice_get_past, slice_get_read}
use Rattle.rv_elf.specs.Contents.{Contents}
use Rattle.rv_memory.specs.Chain.{◌>>=◌}
use Rattle.rv_prune.specs.Ranges.{is_unknown, ranges, unknown}
use Rattle.rv_text.specs.Hexadecimal.{word_of}
use Rattle.rv_text.specs.Pieces.{pieces_of}
use Rattle.rv_engines.specs.Campaigns.{is_malformed, listed, skipped, unless_some}
use Rattle.rv_faults.specs.CommandFault.{Skip, Name}

-- ---- an item, whatever stands for one past the end

pub own : {X : Type 0} (xs : List X) (i : ℕ) (d : X) → i < length xs → get_or xs i d ≡ get_or xs i (get_or xs i d)
own xs i d below = sym (get_or_from_slice_get xs i (get_or xs i d) (get_or xs i d) (slice_get-get_or xs i d below))

any_default : {X : Type 0} (xs : List X) (i : ℕ) (d e : X) → i < length xs → get_or xs i d ≡ get_or xs i e
any_default xs i d e below = get_or_from_slice_get xs i (get_or xs i e) d (slice_get-get_or xs i e below)

-- ---- the elements of a text

no_comma : (b : ℕ) → b ≢ 44 → (b == 44) ≡ false
no_comma b ne = grind (arith, nat_tests)

lacks : (text : List ℕ) → ((i : ℕ) → i < length text → get_or text i 0 ≢ 44) → All (λ b. (b == 44) ≡ false) text
lacks text none k d below = no_comma (get_or text k d) (λ is. none k below (any_default text k 0 d below ∙ is))

pub one_element : (text element after : List ℕ) → text ≡ element ++ 44 ∷ after → ((i : ℕ) → i < length element → get_or element i 0 ≢ 44) → pieces_of 44 text ≡ element ∷ pieces_of 44 after
one_element text element after is none = ap (pieces_of 44) is ∙ slice_split_at (λ b. b == 44) element 44 after (lacks element none) refl

pub last_element : (text : List ℕ) → ((i : ℕ) → i < length text → get_or text i 0 ≢ 44) → pieces_of 44 text ≡ text ∷ []
last_element text none = slice_split_none (λ b. b == 44) text (lacks text none)

abbrev texts_of : List (Bor (List ℕ)) → List (List ℕ)
texts_of given = map (λ element. element.now) given

pushed : (found items : List (Bor (List ℕ))) (element : Bor (List ℕ)) → items ≡ found ++ element ∷ [] → texts_of items ≡ texts_of found ++ element.now ∷ []
pushed found items element is = ap texts_of is ∙ map-append (λ (e : Bor (List ℕ)). e.now) found (element ∷ [])

pub one_more : (found items : List (Bor (List ℕ))) (element : Bor (List ℕ)) (rest after : List ℕ) (all : List (List ℕ)) → items ≡ found ++ element ∷ [] → pieces_of 44 rest ≡ element.now ∷ pieces_of 44 after → texts_of found ++ pieces_of 44 rest ≡ all → texts_of items ++ pieces_of 44 after ≡ all
one_more found items element rest after all is parts so_far =
    ap (λ es. es ++ pieces_of 44 after) (pushed found items element is)
    ∙ append_assoc (texts_of found) (element.now ∷ []) (pieces_of 44 after)
    ∙ ap (λ es. texts_of found ++ es) (sym parts) ∙ so_far

pub no_more : (found items : List (Bor (List ℕ))) (rest : Bor (List ℕ)) (all : List (List ℕ)) → items ≡ found ++ rest ∷ [] → pieces_of 44 rest.now ≡ rest.now ∷ [] → texts_of found ++ pieces_of 44 rest.now ≡ all → texts_of items ≡ all
no_more found items rest all is parts so_far = pushed found items rest is ∙ ap (λ es. texts_of found ++ es) (sym parts) ∙ so_far

-- ---- the first item that passes a test

place_is : (b : Bool) (n i : ℕ) → cond b (Some n) None ≡ Some i → n ≡ i
place_is true n i is = cc
place_is false n i is = cc

pub found_there : {X : Type 0} (p : X → Bool) (xs : List X) (i : ℕ) → position p xs ≡ Some i → find p xs ≡ slice_get xs i
found_there p xs i is = find_at p xs ∙ ap (slice_get xs) (place_is (nat_lt (position_or_len p xs) (length xs)) (position_or_len p xs) i is)

is_past : (b : Bool) (n size : ℕ) → nat_lt n size ≡ b → cond b (Some n) None ≡ None → size ≤ n
is_past true n size e none = cc
is_past false n size e none = grind (arith, nat_tests)

pub found_none : {X : Type 0} (p : X → Bool) (xs : List X) → position p xs ≡ None → find p xs ≡ None
found_none p xs none = find_at p xs ∙ slice_get_past xs (position_or_len p xs) (is_past (nat_lt (position_or_len p xs) (length xs)) (position_or_len p xs) (length xs) refl none)

find-mapped : {A B : Type 0} (p : B → Bool) (g : A → B) (xs : List A) → find p (map g xs) ≡ option_map g (find (λ x. p (g x)) xs)
find-mapped p g [] = refl
find-mapped p g (x ∷ xs) =
    elim (p (g x)) as (λ b. cond b (Some (g x)) (find p (map g xs)) ≡ option_map g (cond b (Some x) (find (λ x. p (g x)) xs))) [ true ↦ refl | false ↦ find-mapped p g xs ]

filter_map-mapped : {A B C : Type 0} (h : B → Option C) (g : A → B) (xs : List A) → filter_map h (map g xs) ≡ filter_map (λ x. h (g x)) xs
filter_map-mapped h g [] = refl
filter_map-mapped h g (x ∷ xs) = ap (cons_option (h (g x))) (filter_map-mapped h g xs)

pub get-mapped : {A B : Type 0} (g : A → B) (xs : List A) (i : ℕ) → slice_get (map g xs) i ≡ option_map g (slice_get xs i)
get-mapped g [] i = refl
get-mapped g (x ∷ xs) zero = refl
get-mapped g (x ∷ xs) (suc i) = get-mapped g xs i

-- ---- the addresses

pub skip_told : (given : List (Bor (List ℕ))) (texts : List (List ℕ)) (place : ℕ) (element : Bor (List ℕ)) → texts_of given ≡ texts → Some place ≡ position (λ (e : Bor (List ℕ)). is_malformed e.now) given → element ≡ get_or given place element → skipped texts ≡ Err (Skip element.now)
unfolding skipped
skip_told given texts place element are found there =
    let p : Bor (List ℕ) → Bool = λ e. is_malformed e.now in
    let below = (position-Some p given place element (sym found)).0 in
    let at = found_there p given place (sym found) ∙ slice_get_read given (length given) place element refl below there in
    let first : find is_malformed texts ≡ Some element.now = ap (find is_malformed) (sym are) ∙ find-mapped is_malformed (λ (e : Bor (List ℕ)). e.now) given ∙ ap (option_map (λ (e : Bor (List ℕ)). e.now)) at in
    ap (λ o. unless_some o Skip >>= λ _. Ok (filter_map word_of texts)) first

pub skip_read : (given : List (Bor (List ℕ))) (texts : List (List ℕ)) (words : List ℕ) → texts_of given ≡ texts → None ≡ position (λ (e : Bor (List ℕ)). is_malformed e.now) given → words ≡ filter_map (λ (e : Bor (List ℕ)). word_of e.now) given → skipped texts ≡ Ok words
unfolding skipped
skip_read given texts words are none read =
    let first : find is_malformed texts ≡ None = ap (find is_malformed) (sym are) ∙ find-mapped is_malformed (λ (e : Bor (List ℕ)). e.now) given ∙ ap (option_map (λ (e : Bor (List ℕ)). e.now)) (found_none (λ (e : Bor (List ℕ)). is_malformed e.now) given (sym none)) in
    let same : filter_map word_of texts ≡ words = ap (filter_map word_of) (sym are) ∙ filter_map-mapped word_of (λ (e : Bor (List ℕ)). e.now) given ∙ sym read in
    ap (λ o. unless_some o Skip >>= λ _. Ok (filter_map word_of texts)) first ∙ ap Ok same

-- ---- the names

pub name_within : (image : Contents) (given : List (Bor (List ℕ))) (place : ℕ) → unknown image (texts_of given) ≡ Some place → place < length given
unfolding unknown
name_within image given place found =
    let below = (position-Some (is_unknown image) (texts_of given) place [] found).0 in
    let size = length-map given (λ (e : Bor (List ℕ)). e.now) in
    omega arith

pub name_told : (image : Contents) (given : List (Bor (List ℕ))) (texts : List (List ℕ)) (place : ℕ) (name : Bor (List ℕ)) → texts_of given ≡ texts → unknown image (texts_of given) ≡ Some place → name ≡ get_or given place name → listed image texts ≡ Err (Name name.now)
unfolding listed unknown
name_told image given texts place name are found there =
    let below = name_within image given place found in
    let at : slice_get (texts_of given) place ≡ Some name.now = get-mapped (λ (e : Bor (List ℕ)). e.now) given place ∙ ap (option_map (λ (e : Bor (List ℕ)). e.now)) (slice_get_read given (length given) place name refl below there) in
    let first : find (is_unknown image) texts ≡ Some name.now = ap (find (is_unknown image)) (sym are) ∙ found_there (is_unknown image) (texts_of given) place found ∙ at in
    ap (λ o. unless_some o Name >>= λ _. Ok (ranges image texts)) first

none_of : (o : Option ℕ) → ((place : ℕ) → o ≡ Some place → ⊥) → o ≡ None
none_of None never = refl
none_of (Some place) never = absurd (never place refl)

pub names_read : (image : Contents) (given : List (Bor (List ℕ))) (texts : List (List ℕ)) (found : List (ℕ × ℕ)) → texts_of given ≡ texts → ((place : ℕ) → unknown image (texts_of given) ≡ Some place → ⊥) → found ≡ ranges image (texts_of given) → listed image texts ≡ Ok found
unfolding listed unknown
names_read image given texts found are never is =
    let first : find (is_unknown image) texts ≡ None = ap (find (is_unknown image)) (sym are) ∙ found_none (is_unknown image) (texts_of given) (none_of (position (is_unknown image) (texts_of given)) never) in
    ap (λ o. unless_some o Name >>= λ _. Ok (ranges image texts)) first ∙ ap Ok (ap (ranges image) (sym are) ∙ sym is)
