-- Bytes that stand in one page, among the bytes of all pages.
use Rattle.std.proofs.Common.{◌≡◌, ℕ, ◌+◌, ◌-◌, ◌*◌, ◌/◌, ◌%◌, ◌≤◌, ◌<◌, zero, suc, Bool, true, List, [], ◌∷◌, ◌++◌, length, set, get_or, map, refl, ap, sym, ◌∙◌, arith, All, IsTrue, length-append, subst, take}
use Rattle.std.proofs.lemmas.List.{get_or_append_left, get_or-append-add, set-append_left, set-append_right, length-set, map-set, set-get_or, append-nil, get_or-map, take_more_set}
use Rattle.std.proofs.lemmas.List.Concat.{flat_map-append}
use Rattle.std.proofs.Math.Seq.{take-add}
use Rattle.std.specs.Prelude.{drop}
use Rattle.std.proofs.lemmas.List.Elements.{All-head, All-tail}
use Rattle.rv_memory.specs.Pages.{KeptPage, bytes_of, is_own}
use Rattle.rv_memory.specs.internal.Flat.{number_at, put_at}
use Rattle.rv_memory.specs.internal.Paged.{IsPage}

number_left : (xs ys : List ℕ) (at size : ℕ) → at + size ≤ length xs → number_at (xs ++ ys) at size ≡ number_at xs at size
number_left xs ys at zero h = refl
number_left xs ys at (suc size) h =
    rw (get_or_append_left xs ys 0 at (omega arith), number_left xs ys (at + 1) size (omega arith)) refl

number_right : (xs ys : List ℕ) (place at size : ℕ) → place ≡ length xs + at → number_at (xs ++ ys) place size ≡ number_at ys at size
number_right xs ys place at zero is = refl
number_right xs ys place at (suc size) is =
    let first : get_or (xs ++ ys) place 0 ≡ get_or ys at 0 = ap (λ n. get_or (xs ++ ys) n 0) is ∙ get_or-append-add xs ys at 0 in
    rw (first, number_right xs ys (place + 1) (at + 1) size (omega arith)) refl

put_left : (xs ys : List ℕ) (at size value : ℕ) → at + size ≤ length xs → put_at (xs ++ ys) at size value ≡ put_at xs at size value ++ ys
put_left xs ys at zero value h = refl
put_left xs ys at (suc size) value h =
    let more : at + 1 + size ≤ length (set xs at (value % 256)) = rw length-set (omega arith) in
    ap (λ l. put_at l (at + 1) size (value / 256)) (set-append_left xs ys at (value % 256) (omega arith))
    ∙ put_left (set xs at (value % 256)) ys (at + 1) size (value / 256) more

put_right : (xs ys : List ℕ) (place at size value : ℕ) → place ≡ length xs + at → put_at (xs ++ ys) place size value ≡ xs ++ put_at ys at size value
put_right xs ys place at zero value is = refl
put_right xs ys place at (suc size) value is =
    let from : place - length xs ≡ at = omega arith in
    let first : set (xs ++ ys) place (value % 256) ≡ xs ++ set ys at (value % 256) =
    set-append_right xs ys (length xs) place (value % 256) refl (omega arith) ∙ ap (λ n. xs ++ set ys n (value % 256)) from in
    ap (λ l. put_at l (place + 1) size (value / 256)) first
    ∙ put_right xs (set ys at (value % 256)) (place + 1) (at + 1) size (value / 256) (omega arith)

pub length_bytes : (ps : List KeptPage) → All IsPage ps → length (bytes_of ps) ≡ 4096 * length ps
length_bytes [] whole = refl
length_bytes (p ∷ ps) whole =
    length-append p.bytes (bytes_of ps) ∙ omega (arith, All-head IsPage p ps whole, length_bytes ps (All-tail IsPage p ps whole))

load_at_place : (ps : List KeptPage) (k j place size : ℕ) (d : KeptPage) → All IsPage ps → k < length ps → j + size ≤ 4096 → place ≡ 4096 * k + j → number_at (bytes_of ps) place size ≡ number_at (get_or ps k d).bytes j size
load_at_place [] k j place size d whole below within is = absurd (omega arith)
load_at_place (p ∷ ps) zero j place size d whole below within is =
    let same : place ≡ j = omega arith in
    ap (λ n. number_at (p.bytes ++ bytes_of ps) n size) same ∙ number_left p.bytes (bytes_of ps) j size (omega (arith, All-head IsPage p ps whole))
load_at_place (p ∷ ps) (suc k) j place size d whole below within is =
    number_right p.bytes (bytes_of ps) place (4096 * k + j) size (omega (arith, All-head IsPage p ps whole))
    ∙ load_at_place ps k j (4096 * k + j) size d (All-tail IsPage p ps whole) (omega arith) within refl

store_at_place : (ps : List KeptPage) (k j place size value : ℕ) (d new : KeptPage) → All IsPage ps → k < length ps → j + size ≤ 4096 → place ≡ 4096 * k + j → new.bytes ≡ put_at (get_or ps k d).bytes j size value → bytes_of (set ps k new) ≡ put_at (bytes_of ps) place size value
store_at_place [] k j place size value d new whole below within is put = absurd (omega arith)
store_at_place (p ∷ ps) zero j place size value d new whole below within is put =
    let same : j ≡ place = omega arith in
    ap (λ l. l ++ bytes_of ps) put ∙ sym (put_left p.bytes (bytes_of ps) j size value (omega (arith, All-head IsPage p ps whole)))
    ∙ ap (λ n. put_at (p.bytes ++ bytes_of ps) n size value) same
store_at_place (p ∷ ps) (suc k) j place size value d new whole below within is put =
    ap (λ l. p.bytes ++ l) (store_at_place ps k j (4096 * k + j) size value d new (All-tail IsPage p ps whole) (omega arith) within refl put)
    ∙ sym (put_right p.bytes (bytes_of ps) place (4096 * k + j) size value (omega (arith, All-head IsPage p ps whole)))

-- the page of a byte that there is
pub page_below : (ps : List KeptPage) (at : ℕ) → All IsPage ps → at < length (bytes_of ps) → at / 4096 < length ps
page_below ps at whole h = omega (arith, length_bytes ps whole)

pub load_in : (ps : List KeptPage) (p : KeptPage) (at size : ℕ) → All IsPage ps → at < length (bytes_of ps) → at % 4096 + size ≤ 4096 → p ≡ get_or ps (at / 4096) p → number_at p.bytes (at % 4096) size ≡ number_at (bytes_of ps) at size
load_in ps p at size whole below within is =
    ap (λ q. number_at q.bytes (at % 4096) size) is
    ∙ sym (load_at_place ps (at / 4096) (at % 4096) at size p whole (page_below ps at whole below) within (omega arith))

pub store_in : (ps : List KeptPage) (p new : KeptPage) (at size value : ℕ) → All IsPage ps → at < length (bytes_of ps) → at % 4096 + size ≤ 4096 → p ≡ get_or ps (at / 4096) p → new.bytes ≡ put_at p.bytes (at % 4096) size value → bytes_of (set ps (at / 4096) new) ≡ put_at (bytes_of ps) at size value
store_in ps p new at size value whole below within is put =
    store_at_place ps (at / 4096) (at % 4096) at size value p new whole (page_below ps at whole below) within (omega arith) (put ∙ ap (λ q. put_at q.bytes (at % 4096) size value) is)

pub same_in : (ps : List KeptPage) (p new : KeptPage) (k : ℕ) → All IsPage ps → k < length ps → p ≡ get_or ps k p → new.bytes ≡ p.bytes → bytes_of (set ps k new) ≡ bytes_of ps
same_in ps p new k whole below is same =
    store_at_place ps k 0 (4096 * k) 0 0 p new whole below (omega arith) (omega arith) (same ∙ ap (λ q. q.bytes) is)

pub owners_in : (ps : List KeptPage) (p new : KeptPage) (k : ℕ) → k < length ps → p ≡ get_or ps k p → new.own ≡ p.own → map (λ q. q.own) (set ps k new) ≡ map (λ q. q.own) ps
owners_in ps p new k below is same =
    let own : KeptPage → Bool = λ q. q.own in
    map-set own ps k new ∙ ap (λ b. set (map own ps) k b) (same ∙ ap own is ∙ sym (get_or-map own ps k p p.own below)) ∙ set-get_or (map own ps) k p.own

-- a page that is no less own than the one whose place it takes
pub keeps_in : (ps : List KeptPage) (k place : ℕ) (p new : KeptPage) → p ≡ get_or ps k p → (IsTrue p.own → IsTrue new.own) → IsTrue (is_own ps place) → IsTrue (is_own (set ps k new) place)
keeps_in [] k place p new is grows h = h
keeps_in (q ∷ ps) zero zero p new is grows h = grows (subst (λ x. IsTrue x.own) (sym is) h)
keeps_in (q ∷ ps) zero (suc place) p new is grows h = h
keeps_in (q ∷ ps) (suc k) zero p new is grows h = h
keeps_in (q ∷ ps) (suc k) (suc place) p new is grows h = keeps_in ps k place p new is grows h

pub own_in : (ps : List KeptPage) (k : ℕ) (new : KeptPage) → k < length ps → new.own ≡ true → IsTrue (is_own (set ps k new) k)
own_in [] k new below own = absurd (omega arith)
own_in (q ∷ ps) zero new below own = own
own_in (q ∷ ps) (suc k) new below own = own_in ps k new (omega arith) own

-- one more page of the bytes
pub more_bytes : (ps : List KeptPage) (p : KeptPage) (bytes : List ℕ) (k : ℕ) → bytes_of ps ≡ take (4096 * k) bytes → p.bytes ≡ take 4096 (drop (4096 * k) bytes) → bytes_of (ps ++ p ∷ []) ≡ take (4096 * (k + 1)) bytes
more_bytes ps p bytes k so_far page =
    let next : 4096 * (k + 1) ≡ 4096 * k + 4096 = omega arith in
    let last : bytes_of (p ∷ []) ≡ p.bytes = append-nil p.bytes in
    flat_map-append (λ (q : KeptPage). q.bytes) ps (p ∷ []) ∙ ap (λ l. bytes_of ps ++ l) (last ∙ page) ∙ ap (λ l. l ++ take 4096 (drop (4096 * k) bytes)) so_far
    ∙ sym (take-add (4096 * k) 4096 bytes) ∙ ap (λ n. take n bytes) (sym next)

-- one more page that is shared
pub more_shared : (ps cs : List KeptPage) (k : ℕ) (p new copy : KeptPage) → k < length ps → new.bytes ≡ p.bytes → copy.bytes ≡ p.bytes → bytes_of cs ≡ bytes_of (take k ps) → bytes_of (cs ++ copy ∷ []) ≡ bytes_of (take (k + 1) (set ps k new))
more_shared ps cs k p new copy below same equal so_far =
    let bytes : KeptPage → List ℕ = λ q. q.bytes in
    flat_map-append bytes cs (copy ∷ []) ∙ ap (λ l. l ++ bytes_of (copy ∷ [])) so_far ∙ ap (λ l. bytes_of (take k ps) ++ (l ++ [])) (equal ∙ sym same)
    ∙ sym (flat_map-append bytes (take k ps) (new ∷ [])) ∙ ap bytes_of (sym (take_more_set ps k new below))
