-- What is added to a race table, ending by ending and run by run.
use Rattle.std.proofs.Common.{◌≡◌, ℕ, zero, suc, ◌+◌, ◌<◌, List, [], ◌∷◌, ◌++◌, length, get_or, take, map, Some, refl, sym, ap, ◌∙◌, arith, append_assoc, add-zero}
use Rattle.std.specs.Prelude.{slice_get, option_map, Vec}
use Rattle.std.specs.declared.alloc.Global.{Global}
use Rattle.std.proofs.lemmas.List.{append-nil, length-map, length-take, take_more}
use Rattle.std.proofs.lemmas.Option.{get_or_from_slice_get, slice_get_read}
use Rattle.rv_collide.specs.declared.collider.Finished.{Finished}
use Rattle.rv_collide.specs.declared.ending.Ending.{Ending}
use Rattle.rv_elf.specs.Contents.{Contents}
use Rattle.rv_prune.specs.Class.{class}
use Rattle.rv_prune.specs.declared.class.Class.{Class}
use Rattle.rv_report.specs.Races.{Told}
use Rattle.rv_engines.specs.Campaigns.{told_from, with_class}
use Rattle.rv_engines.proofs.RunLists.{get-mapped}

some_same : {A : Type 0} → (x y : A) → Some x ≡ Some y → x ≡ y
some_same x y h = cc

pub one_added : (image : Contents) (bytes : List (ℕ × ℕ)) (run : ℕ) (endings : List Ending) (found : List Class) (i : ℕ) (e : Ending) (k : Class) (told : List Told) → found ≡ map (λ ending. class image ending bytes) endings → i < length endings → e ≡ get_or endings i e → k ≡ get_or found i k
    → (told ++ take i (map (with_class image bytes run) endings)) ++ record { run = run; ending = e; class = k } ∷ [] ≡ told ++ take (i + 1) (map (with_class image bytes run) endings)
one_added image bytes run endings found i e k told are below there kind =
    let all = map (with_class image bytes run) endings in
    let at : slice_get endings i ≡ Some e = slice_get_read endings (length endings) i e refl below there in
    let size = ap length are ∙ length-map endings (λ ending. class image ending bytes) in
    let known : slice_get found i ≡ Some k = slice_get_read found (length found) i k refl (omega arith) kind in
    let is : k ≡ class image e bytes = some_same k (class image e bytes) (sym known ∙ ap (λ ks. slice_get ks i) are ∙ get-mapped (λ ending. class image ending bytes) endings i ∙ ap (option_map (λ ending. class image ending bytes)) at) in
    let d : Told = with_class image bytes run e in
    let here : get_or all i d ≡ d = get_or_from_slice_get all i d d (get-mapped (with_class image bytes run) endings i ∙ ap (option_map (with_class image bytes run)) at) in
    let more : take (i + 1) all ≡ take i all ++ d ∷ [] = take_more all i d (let n = length-map endings (with_class image bytes run) in omega arith) ∙ ap (λ (t : Told). take i all ++ t ∷ []) here in
    append_assoc told (take i all) (record { run = run; ending = e; class = k } ∷ [])
    ∙ ap (λ (c : Class). told ++ (take i all ++ record { run = run; ending = e; class = c } ∷ [])) is
    ∙ ap (λ ts. told ++ ts) (sym more)

next_number : (first n : ℕ) → first + 1 + n ≡ first + (n + 1)
next_number first n = omega arith

told_more : (image : Contents) (bytes : List (ℕ × ℕ)) (first : ℕ) (runs : List Finished) (one : Finished) → told_from image bytes first (runs ++ one ∷ []) ≡ told_from image bytes first runs ++ map (with_class image bytes (first + length runs)) one.endings.items
unfolding told_from
told_more image bytes first [] one = append-nil (map (with_class image bytes first) one.endings.items) ∙ ap (λ n. map (with_class image bytes n) one.endings.items) (sym (add-zero first))
told_more image bytes first (x ∷ runs) one =
    let number : first + 1 + length runs ≡ first + length (x ∷ runs) = omega arith in
    ap (λ ts. map (with_class image bytes first) x.endings.items ++ ts) (told_more image bytes (first + 1) runs one ∙ ap (λ n. told_from image bytes (first + 1) runs ++ map (with_class image bytes n) one.endings.items) number)
    ∙ sym (append_assoc (map (with_class image bytes first) x.endings.items) (told_from image bytes (first + 1) runs) (map (with_class image bytes (first + length (x ∷ runs))) one.endings.items))

pub run_more : (image : Contents) (bytes : List (ℕ × ℕ)) (runs : List Finished) (i : ℕ) (one : Finished) → i < length runs → one ≡ get_or runs i one → told_from image bytes 0 (take i runs) ++ map (with_class image bytes i) one.endings.items ≡ told_from image bytes 0 (take (i + 1) runs)
run_more image bytes runs i one below there =
    let size : 0 + length (take i runs) ≡ i = let l = length-take i runs in omega arith in
    let next : take (i + 1) runs ≡ take i runs ++ one ∷ [] = take_more runs i one below ∙ ap (λ (x : Finished). take i runs ++ x ∷ []) (sym there) in
    sym (
    ap (told_from image bytes 0) next ∙ told_more image bytes 0 (take i runs) one
    ∙ ap (λ n. told_from image bytes 0 (take i runs) ++ map (with_class image bytes n) one.endings.items) size
    )

there_is : {X : Type 0} (xs : List X) (i : ℕ) → i < length xs → (x : X) × (slice_get xs i ≡ Some x)
there_is [] i below = (let no : i < 0 = below in absurd (omega arith))
there_is (x ∷ xs) zero below = (x, refl)
there_is (x ∷ xs) (suc i) below = there_is xs i (omega (arith, below))

-- the same, where the endings of the runs are known
pub endings_more : (image : Contents) (bytes : List (ℕ × ℕ)) (runs : List Finished) (ended : List (Vec Ending Global)) (i : ℕ) (kept : Vec Ending Global) → map (λ one. one.endings) runs ≡ ended → i < length ended → kept ≡ get_or ended i kept → told_from image bytes 0 (take i runs) ++ map (with_class image bytes i) kept.items ≡ told_from image bytes 0 (take (i + 1) runs)
endings_more image bytes runs ended i kept are within is =
    let size : length runs ≡ length ended = sym (length-map runs (λ (one : Finished). one.endings)) ∙ ap length are in
    let below : i < length runs = omega (arith, within, size) in
    let one = there_is runs i below in
    let there : slice_get ended i ≡ Some one.0.endings =
    ap (λ es. slice_get es i) (sym are) ∙ get-mapped (λ (run : Finished). run.endings) runs i ∙ ap (option_map (λ (run : Finished). run.endings)) one.1 in
    ap (λ (es : Vec Ending Global). told_from image bytes 0 (take i runs) ++ map (with_class image bytes i) es.items) (is ∙ get_or_from_slice_get ended i one.0.endings kept there)
    ∙ run_more image bytes runs i one.0 below (sym (get_or_from_slice_get runs i one.0 one.0 one.1))

pub none_told : (image : Contents) (bytes : List (ℕ × ℕ)) → told_from image bytes 0 [] ≡ []
unfolding told_from
none_told image bytes = refl
