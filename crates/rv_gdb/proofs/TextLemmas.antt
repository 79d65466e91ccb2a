-- Texts that a loop writes, piece by piece, into a writer whose bytes may be known: what is left of them, and what one
-- piece leaves.
use Rattle.std.proofs.Common.{◌≡◌, ℕ, ◌+◌, ◌-◌, ◌<◌, ◌≤◌, List, [], ◌∷◌, ◌++◌, zero, suc, true, Option, None, Some, refl, subst, sym, ap, inl, inr, length, ◌∙◌, append_assoc, arith}
use Rattle.std.specs.Prelude.{IsSomeAnd, codes, is_some, slice_get}
use Rattle.std.specs.List.{flat_map, range_with_len}
use Rattle.std.specs.Io.KnownBytes.{Appends}
use Rattle.std.proofs.KnownBytes.{Appends-nil, Appends-trans}
use Rattle.std.proofs.lemmas.Option.{slice_get_cases}
use Rattle.std.specs.Option.{option_map_or}
use Rattle.std.specs.Fmt.{decimal}
use Rattle.rv_gdb.specs.Features.{features_text, head, register_element, register_elements, tail, type_of}
use Rattle.rv_gdb.specs.Replies.{or_refused}
use Rattle.rv_gdb.specs.Shown.{bytes_text, register_text, registers_text, word_text}
use Rattle.rv_gdb.specs.Stops.{hexadecimal, stop_text, thread_text, why_text}
use Rattle.rv_gdb.specs.declared.stop.Stop.{Stop}
use Rattle.rv_hart.specs.Registers.{get}
use Rattle.rv_hart.specs.declared.hart.Hart.{Hart}
use Rattle.rv_memory.specs.Memory.{Memory, byte}
use Rattle.rv_text.specs.Hexadecimal.{byte_digits, word_digits}

-- Whoever writes this text next has written the whole one.
pub record IsLeft (whole left : List ℕ) (before now : Option (List ℕ)) : Type 0 where
  pub then : (end : Option (List ℕ)) → Appends now end left → Appends before end whole

pub at_first : (whole : List ℕ) (writer : Option (List ℕ)) → IsLeft whole whole writer writer
at_first whole writer = record { then = λ end h. h }

pub after_piece : (whole left piece rest : List ℕ) (before now next : Option (List ℕ)) → IsLeft whole left before now → left ≡ piece ++ rest → Appends now next piece → IsLeft whole rest before next
after_piece whole left piece rest before now next is e put =
    record { then = λ end h. is.then end (subst (Appends now end) (sym e) (Appends-trans now next end piece rest put h)) }

pub at_end : (whole : List ℕ) (before now : Option (List ℕ)) → IsLeft whole [] before now → Appends before now whole
at_end whole before now is = is.then now (Appends-nil now)

-- ---- what is left of some texts

range_first : (n i : ℕ) → i < n → range_with_len i (n - i) ≡ i ∷ range_with_len (i + 1) (n - (i + 1))
range_first n i lt =
    let e : n - i ≡ suc (n - (i + 1)) = omega arith in
    ap (range_with_len i) e

pub text_first : (f : ℕ → List ℕ) (n i : ℕ) → i < n → flat_map f (range_with_len i (n - i)) ≡ f i ++ flat_map f (range_with_len (i + 1) (n - (i + 1)))
text_first f n i lt = ap (flat_map f) (range_first n i lt)

pub text_end : (f : ℕ → List ℕ) (n i : ℕ) → n ≤ i → flat_map f (range_with_len i (n - i)) ≡ []
text_end f n i past =
    let e : n - i ≡ 0 = omega arith in
    ap (λ k. flat_map f (range_with_len i k)) e

pub bytes_first : (m : Memory) (a n i b : ℕ) → i < n → byte m (a + i) ≡ Some b → bytes_text m (a + i) (n - i) ≡ byte_digits b ++ bytes_text m (a + (i + 1)) (n - (i + 1))
bytes_first m a n i b lt is =
    let e : n - i ≡ suc (n - (i + 1)) = omega arith in
    let f : a + i + 1 ≡ a + (i + 1) = omega arith in
    rw (e, is, f) refl

pub bytes_none : (m : Memory) (a n i : ℕ) → i < n → byte m (a + i) ≡ None → bytes_text m (a + i) (n - i) ≡ []
bytes_none m a n i lt is =
    let e : n - i ≡ suc (n - (i + 1)) = omega arith in
    rw (e, is) refl

pub bytes_end : (m : Memory) (a n i : ℕ) → n ≤ i → bytes_text m (a + i) (n - i) ≡ []
bytes_end m a n i past =
    let e : n - i ≡ 0 = omega arith in
    ap (bytes_text m (a + i)) e

pub ends : (whole left : List ℕ) (before now : Option (List ℕ)) → IsLeft whole left before now → left ≡ [] → Appends before now whole
ends whole left before now is e = at_end whole before now (subst (λ left. IsLeft whole left before now) e is)

-- ---- registers

none_is_not_some : {A : Type 0} {x : A} → None ≡ Some x → ⊥
none_is_not_some e = cc

-- the registers from one on, and pc
abbrev pub registers_left : Hart → ℕ → List ℕ
registers_left hart r = flat_map (register_text hart) (range_with_len r (32 - r)) ++ word_text hart.pc

abbrev pub AreLeft : Option Hart → ℕ → Option (List ℕ) → Option (List ℕ) → Type 0
AreLeft o r before now = IsSomeAnd o (λ hart. IsLeft (registers_text hart) (registers_left hart r) before now)

begin_at : (o : Option Hart) (writer : Option (List ℕ)) → (o ≡ None → ⊥) → AreLeft o 0 writer writer
begin_at None writer is = absurd (is refl)
begin_at (Some hart) writer is = at_first (registers_text hart) writer

pub registers_begin : (harts : List Hart) (h : ℕ) (writer : Option (List ℕ)) → h < length harts → AreLeft (slice_get harts h) 0 writer writer
registers_begin harts h writer lt =
    begin_at (slice_get harts h) writer (λ none. elim (slice_get_cases harts h).1 [ inl there ↦ none_is_not_some (sym none ∙ there.2) | inr past ↦ absurd (omega (arith, past.0)) ])

pub registers_next : (o : Option Hart) (r value : ℕ) (before now next : Option (List ℕ)) → r < 32 → AreLeft o r before now → IsSomeAnd o (λ hart. value ≡ get hart.registers r) → Appends now next (word_text value) → AreLeft o (r + 1) before next
registers_next None r value before now next lt is e put = absurd is
registers_next (Some hart) r value before now next lt is e put =
    let put : Appends now next (register_text hart r) = subst (λ v. Appends now next (word_text v)) e put in
    after_piece (registers_text hart) (registers_left hart r) (register_text hart r) (registers_left hart (r + 1)) before now next is
    (ap (λ text. text ++ word_text hart.pc) (text_first (register_text hart) 32 r lt) ∙ append_assoc (register_text hart r) _ (word_text hart.pc)) put

pub registers_end : (o : Option Hart) (r pc : ℕ) (before now end : Option (List ℕ)) → 32 ≤ r → AreLeft o r before now → IsSomeAnd o (λ hart. pc ≡ hart.pc) → Appends now end (word_text pc) → IsSomeAnd o (λ hart. Appends before end (registers_text hart))
registers_end None r pc before now end past is e put = absurd is
registers_end (Some hart) r pc before now end past is e put =
    is.then end (subst (λ left. Appends now end left) (sym (ap (λ text. text ++ word_text hart.pc) (text_end (register_text hart) 32 r past))) (subst (λ v. Appends now end (word_text v)) e put))

-- ---- threads

-- the first thread, with what all of them begin with
pub first_thread : (before now : Option (List ℕ)) → Appends before now (codes "m1") → Appends before now (codes "m" ++ hexadecimal 1)
unfolding hexadecimal word_digits byte_digits
first_thread before now put = put

-- ---- stops

six : (a b c d e f : List ℕ) → ((((a ++ b) ++ c) ++ d) ++ e) ++ f ≡ a ++ (b ++ (c ++ (d ++ (e ++ f))))
six a b c d e f =
    append_assoc (((a ++ b) ++ c) ++ d) e f ∙ append_assoc ((a ++ b) ++ c) d (e ++ f) ∙ append_assoc (a ++ b) c (d ++ (e ++ f)) ∙ append_assoc a b (c ++ (d ++ (e ++ f)))

-- the pieces of a stop, as they are put
pub stop_joined : (stop : Stop) (digits front address end number : List ℕ) → digits ≡ byte_digits stop.signal → front ++ (address ++ end) ≡ why_text stop.why → number ≡ thread_text stop.hart
    → codes "T" ++ (digits ++ (front ++ (address ++ (end ++ (codes "thread:" ++ (number ++ codes ";")))))) ≡ stop_text stop
stop_joined stop digits front address end number signal why thread =
    let rest = codes "thread:" ++ (number ++ codes ";") in
    ap (λ text. codes "T" ++ (digits ++ text)) (ap (λ text. front ++ text) (sym (append_assoc address end rest)) ∙ sym (append_assoc front (address ++ end) rest) ∙ ap (λ text. text ++ rest) why)
    ∙ ap (λ digits. codes "T" ++ (digits ++ (why_text stop.why ++ rest))) signal
    ∙ ap (λ number. codes "T" ++ (byte_digits stop.signal ++ (why_text stop.why ++ (codes "thread:" ++ (number ++ codes ";"))))) thread
    ∙ sym (six (codes "T") (byte_digits stop.signal) (why_text stop.why) (codes "thread:") (thread_text stop.hart) (codes ";"))

-- ---- pieces

-- three pieces, one after another
pub three : (a b c d : Option (List ℕ)) (x y z : List ℕ) → Appends a b x → Appends b c y → Appends c d z → Appends a d (x ++ (y ++ z))
three a b c d x y z p q r = Appends-trans a b d x (y ++ z) p (Appends-trans b c d y z q r)

pub features_joined : (a b c d : Option (List ℕ)) (front back : List ℕ) → front ≡ head → back ≡ tail → Appends a b front → Appends b c register_elements → Appends c d back → Appends a d features_text
unfolding features_text head tail
features_joined a b c d front back is last p q r =
    three a b c d head register_elements tail (subst (Appends a b) is p) q (subst (Appends c d) last r)

-- the pieces of a register's element, as they are put
abbrev pub element_of : List ℕ → List ℕ → List ℕ → List ℕ
element_of name type number =
    codes "<reg name=\"x" ++ (name ++ (codes "\" bitsize=\"32\" type=\"" ++ (type ++ (codes "\" regnum=\"" ++ (number ++ codes "\"/>")))))

pub element_joined : (a b : Option (List ℕ)) (name number type : List ℕ) (r : ℕ) → name ≡ decimal r → type ≡ type_of r → number ≡ decimal r → Appends a b (element_of name type number) → Appends a b (register_element r)
element_joined a b name number type r n t m put =
    subst (λ name. Appends a b (element_of name (type_of r) (decimal r))) n (subst (λ type. Appends a b (element_of name type (decimal r))) t (subst (λ number. Appends a b (element_of name type number)) m put))

-- bytes of which the first is there are shown
shown_at : (o : Option ℕ) (rest : List ℕ) (a c : Option (List ℕ)) → is_some o ≡ true → Appends a c (option_map_or (λ b. byte_digits b ++ rest) o []) → Appends a c (or_refused (option_map_or (λ b. byte_digits b ++ rest) o []))
unfolding byte_digits
shown_at None rest a c is put = cc
shown_at (Some b) rest a c is put = put

pub shown_there : (m : Memory) (from count : ℕ) (a c : Option (List ℕ)) → is_some (byte m from) ≡ true → 0 < count → Appends a c (bytes_text m from count) → Appends a c (or_refused (bytes_text m from count))
shown_there m from zero a c is lt put = absurd (omega arith)
shown_there m from (suc count) a c is lt put = shown_at (byte m from) (bytes_text m (from + 1) count) a c is put
