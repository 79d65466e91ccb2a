-- Texts written piece by piece, into a writer whose bytes may be known.
use Rattle.std.proofs.Common.{◌≡◌, ℕ, ◌+◌, List, [], ◌∷◌, ◌++◌, take, length, Option, None, Some, Result, Ok, Err, OnOk, codes, ap, refl, sym, ◌∙◌, append_assoc, append-nil, subst, zero, suc, zero-add, add-zero, arith}
use Rattle.std.specs.Prelude.{slice_get, IsSomeAnd}
use Rattle.std.specs.Fmt.{decimal}
use Rattle.std.specs.List.{flat_map, range_with_len}
use Rattle.std.specs.Io.KnownBytes.{Appends}
use Rattle.std.proofs.KnownBytes.{Appends-trans}
use Rattle.std.proofs.lemmas.Grind.{flat_map-append}
use Rattle.std.proofs.lemmas.List.{take_more, length-take-le}
use Rattle.std.proofs.lemmas.Option.{slice_get_within, get_or_from_slice_get}
use Rattle.rv_hart.specs.Registers.{get}
use Rattle.rv_hart.specs.declared.access.Access.{Access}
use Rattle.rv_hart.specs.declared.hart.Hart.{Hart}
use Rattle.rv_hart.specs.declared.hart.Status.{Status}
use Rattle.rv_text.specs.Hexadecimal.{word_digits}
use Rattle.rv_text.specs.Lines.{text_of_lines}
use Rattle.rv_hart.specs.Texts.{access_text, front_text, hart_line, hart_lines, kind_text, pc_text, register_text, registers_text, reservation_text, status_text, value_text}

-- what was written before and the next piece are the whole
appends_then : (a b c : Option (List ℕ)) (front piece whole : List ℕ) → Appends a b front → Appends b c piece → front ++ piece ≡ whole → Appends a c whole
appends_then a b c front piece whole h k e = subst (Appends a c) e (Appends-trans a b c front piece h k)

flat_map_next : {X : Type 0} (f : X → List ℕ) (xs : List X) (x : X) → flat_map f xs ++ f x ≡ flat_map f (xs ++ x ∷ [])
flat_map_next f xs x = sym (flat_map-append f xs (x ∷ []) ∙ ap (λ l. flat_map f xs ++ l) (append-nil (f x)))

range_next : (a n : ℕ) → range_with_len a n ++ (a + n) ∷ [] ≡ range_with_len a (n + 1)
range_next a zero = ap (λ k. k ∷ []) (add-zero a)
range_next a (suc n) =
    let later : (a + 1) + n ≡ a + suc n = omega arith in
    let one : n + 1 ≡ suc n = omega arith in
    let two : suc (suc n) ≡ suc n + 1 = omega arith in
    let rest = ap (λ k. range_with_len (a + 1) n ++ k ∷ []) (sym later) ∙ range_next (a + 1) n ∙ ap (range_with_len (a + 1)) one in
    ap (λ l. a ∷ l) rest ∙ ap (range_with_len a) two

pub registers_next : (o : Option Hart) (a b c : Option (List ℕ)) (r value : ℕ) → IsSomeAnd o (λ hart. Appends a b (flat_map (register_text hart.registers) (range_with_len 0 r)))
    → IsSomeAnd o (λ hart. value ≡ get hart.registers r) → Appends b c (value_text r value) → IsSomeAnd o (λ hart. Appends a c (flat_map (register_text hart.registers) (range_with_len 0 (r + 1))))
registers_next None a b c r value h e k = absurd h
registers_next (Some hart) a b c r value h e k =
    let text = register_text hart.registers in
    let piece = subst (λ v. Appends b c (value_text r v)) e k in
    appends_then a b c (flat_map text (range_with_len 0 r)) (text r) _ h piece
    (flat_map_next text (range_with_len 0 r) r ∙ ap (λ k. flat_map text (range_with_len 0 r ++ k ∷ [])) (sym (zero-add r)) ∙ ap (flat_map text) (range_next 0 r))

pub hart_written : (o : Option Hart) (h pc : ℕ) (status : Status) (reservation : Option ℕ) (a b c d e f g : Option (List ℕ)) → Appends a b (front_text h)
    → IsSomeAnd o (λ hart. status ≡ hart.status) → Appends b c (status_text status) → IsSomeAnd o (λ hart. pc ≡ hart.pc) → Appends c d (pc_text pc)
    → IsSomeAnd o (λ hart. Appends d e (registers_text hart.registers)) → IsSomeAnd o (λ hart. reservation ≡ hart.reservation)
    → Appends e f (reservation_text reservation) → Appends f g (10 ∷ []) → IsSomeAnd o (λ hart. Appends a g (hart_line h hart ++ 10 ∷ []))
hart_written None h pc status reservation a b c d e f g p q r s t u v w x = absurd q
hart_written (Some hart) h pc status reservation a b c d e f g p q r s t u v w x =
    let to_status = Appends-trans a b c _ _ p (subst (λ it. Appends b c (status_text it)) q r) in
    let to_pc = Appends-trans a c d _ _ to_status (subst (λ it. Appends c d (pc_text it)) s t) in
    let to_registers = Appends-trans a d e _ _ to_pc u in
    let to_reservation = Appends-trans a e f _ _ to_registers (subst (λ it. Appends e f (reservation_text it)) v w) in
    Appends-trans a f g _ _ to_reservation x

hart_lines_push : (harts : List Hart) (first : ℕ) (hart : Hart) → hart_lines first harts ++ hart_line (first + length harts) hart ∷ [] ≡ hart_lines first (harts ++ hart ∷ [])
hart_lines_push [] first hart = ap (λ k. hart_line k hart ∷ []) (add-zero first)
hart_lines_push (other ∷ harts) first hart =
    let later : first + length (other ∷ harts) ≡ (first + 1) + length harts = omega arith in
    ap (λ l. hart_line first other ∷ l) (ap (λ k. hart_lines (first + 1) harts ++ hart_line k hart ∷ []) later ∙ hart_lines_push harts (first + 1) hart)

some_at : {P : Hart → Type 0} (o : Option Hart) → IsSomeAnd o P → (hart : Hart) × (o ≡ Some hart) × P hart
some_at None h = absurd h
some_at (Some hart) h = (hart, refl, h)

pub lines_next : (harts : List Hart) (h : ℕ) (a b c : Option (List ℕ)) → Appends a b (text_of_lines (hart_lines 0 (take h harts)))
    → IsSomeAnd (slice_get harts h) (λ hart. Appends b c (hart_line h hart ++ 10 ∷ [])) → Appends a c (text_of_lines (hart_lines 0 (take (h + 1) harts)))
lines_next harts h a b c before next =
    let found = some_at (slice_get harts h) next in
    let hart = found.0 in
    let within = slice_get_within harts h hart found.1 in
    let front = take h harts in
    let count : 0 + length front ≡ h = zero-add (length front) ∙ length-take-le h harts (omega arith) in
    let more : front ++ hart ∷ [] ≡ take (h + 1) harts =
    sym (take_more harts h hart within ∙ ap (λ x. front ++ x ∷ []) (get_or_from_slice_get harts h hart hart found.1)) in
    let push = ap (λ k. hart_lines 0 front ++ hart_line k hart ∷ []) (sym count) ∙ hart_lines_push front 0 hart ∙ ap (hart_lines 0) more in
    appends_then a b c (text_of_lines (hart_lines 0 front)) (hart_line h hart ++ 10 ∷ []) _ before found.2
    (flat_map_next (λ line. line ++ 10 ∷ []) (hart_lines 0 front) (hart_line h hart) ∙ ap text_of_lines push)

-- an access in the order of writing
abbrev pub access_front : (pc kind : List ℕ) → List ℕ
access_front pc kind = codes "pc " ++ (pc ++ (codes " " ++ (kind ++ (codes " " ++ []))))

abbrev pub access_end : (first size : List ℕ) → List ℕ
access_end first size = first ++ (codes " " ++ (size ++ []))

access_is : (pc kind first size : List ℕ) → access_front pc kind ++ access_end first size ≡ codes "pc " ++ pc ++ codes " " ++ kind ++ codes " " ++ first ++ codes " " ++ size
access_is pc kind first size = simp (append_assoc, append-nil)

pub access_written : {T E : Type 0} (access : Access) (r : Result T E) (a b c : Option (List ℕ)) (pc kind first size : List ℕ)
    → pc ≡ word_digits access.pc → kind ≡ kind_text access.read access.write → first ≡ word_digits access.first → size ≡ decimal access.size
    → Appends a b (access_front pc kind) → OnOk r (Appends b c (access_end first size)) → OnOk r (Appends a c (access_text access))
access_written access (Err fault) a b c pc kind first size p k f s front end = tt
access_written access (Ok value) a b c pc kind first size p k f s front end =
    let whole = Appends-trans a b c (access_front pc kind) (access_end first size) front end in
    subst (Appends a c) (access_is (word_digits access.pc) (kind_text access.read access.write) (word_digits access.first) (decimal access.size)) (rw (p, k, f, s) at whole)
