-- Bytes that a source reads and hands on, and the lines that they make.
use Rattle.std.proofs.Common.{zero, suc, ◌≡◌, ℕ, ◌+◌, ◌<◌, ◌≤◌, Bool, true, false, ◌==◌, List, [], ◌∷◌, ◌++◌, Option, Some, None, length, take, set, refl, sym, ap, subst, ◌∙◌, inl, inr, arith, append-nil, length-append}
use Rattle.std.specs.Io.KnownBytes.{Consumes, IsAtEnd, Keeps, prepend_known}
use Rattle.std.proofs.KnownBytes.{Consumes-trans, Consumes-nil}
use Rattle.std.proofs.lemmas.Bool.Decides.{nat_tests}
use Rattle.std.proofs.lemmas.List.{length-take, take_all, take_more_set, take-append-le}
use Rattle.std.proofs.lemmas.List.Folds.{list_any-append}
use Rattle.rv_text.specs.Lines.{has_line_feed}
use Rattle.rv_debug.specs.internal.Lines.{IsByteless, IsUntaken, Source, TakesLine, kept}
use Rattle.rv_debug.specs.declared.fault.TalkFault.{TalkFault}
use Rattle.rv_debug.specs.declared.fault.TalkFault.TheVariants.{TooLong, Read}

-- ---- what is kept of a line

pub kept_more : (bytes : List ℕ) (len byte : ℕ) → len < length bytes → length bytes ≡ 32 → take (len + 1) (set bytes len byte) ≡ kept (take len bytes ++ byte ∷ [])
kept_more bytes len byte room all =
    take_more_set bytes len byte room ∙ sym (take_all 32 (take len bytes ++ byte ∷ []) (omega (arith, length-append (take len bytes) (byte ∷ []), length-take len bytes)))

pub kept_full : (bytes : List ℕ) (len byte : ℕ) → 32 ≤ len → len ≤ 32 → length bytes ≡ 32 → take len bytes ≡ kept (take len bytes ++ byte ∷ [])
kept_full bytes len byte least most all =
    let size = length-take len bytes in
    sym (take-append-le 32 (take len bytes) (byte ∷ []) (omega arith) ∙ take_all 32 (take len bytes) (omega arith))

front_of_front : (n : ℕ) (t u : List ℕ) → take n (take n t ++ u) ≡ take n (t ++ u)
front_of_front zero t u = refl
front_of_front (suc n) [] u = refl
front_of_front (suc n) (x ∷ t) u = ap (λ l. x ∷ l) (front_of_front n t u)

-- ---- a read

-- bytes that were read and not taken are still to be taken
pub filled : (a b : Option (List ℕ)) (front : List ℕ) → Consumes a b front → Consumes a (prepend_known front b) []
filled None b front read = tt
filled (Some x) None front read = absurd read
filled (Some x) (Some y) front read = read

pub ended : (a b : Option (List ℕ)) → Consumes a b [] → IsAtEnd b → Consumes a (Some []) []
ended None b read end = tt
ended (Some x) None read end = absurd read
ended (Some x) (Some y) read end = read ∙ end

pub failed : (a b : Option (List ℕ)) → Keeps a b → Consumes a b []
failed None b keeps = tt
failed (Some x) None keeps = absurd keeps
failed (Some x) (Some y) keeps = sym keeps

-- ---- a line

-- bytes without an LF were taken, and this is kept of them
pub record LineSoFar (before now : Source) (old new : Option (List ℕ)) (line : List ℕ) (is_empty : Bool) : Type 0 where
  pub text : List ℕ
  pub is_kept : line ≡ kept text
  pub plain : has_line_feed text ≡ false
  pub taken : Consumes old new text
  pub left : before.left ≡ length text + now.left
  pub over : before.is_over ≡ now.is_over
  pub empty : is_empty ≡ (length text == 0)

pub LineSoFar-none : (source : Source) (known : Option (List ℕ)) → LineSoFar source source known known [] true
LineSoFar-none source known = record { text = []; is_kept = refl; plain = refl; taken = Consumes-nil known; left = omega arith; over = refl; empty = refl }

pub LineSoFar-more : (before now after : Source) (old new next : Option (List ℕ)) (line line' : List ℕ) (is_empty : Bool) (byte : ℕ)
    → LineSoFar before now old new line is_empty → Consumes new next (byte ∷ []) → now.left ≡ after.left + 1 → (now.is_over ≡ false) × (after.is_over ≡ false) → (byte == 10) ≡ false → line' ≡ kept (line ++ byte ∷ [])
    → LineSoFar before after old next line' false
LineSoFar-more before now after old new next line line' is_empty byte so_far took left running other is =
    let size = length-append so_far.text (byte ∷ []) in
    record {
      text = so_far.text ++ byte ∷ [];
      is_kept = is ∙ ap (λ l. kept (l ++ byte ∷ [])) so_far.is_kept ∙ front_of_front 32 so_far.text (byte ∷ []);
      plain = list_any-append (λ b. b == 10) so_far.text (byte ∷ []) ∙ rw (so_far.plain, other) refl;
      taken = Consumes-trans old new next so_far.text (byte ∷ []) so_far.taken took;
      left = let was = so_far.left in omega arith;
      over = so_far.over ∙ running.0 ∙ sym running.1;
      empty = grind (arith, nat_tests);
    }

pub line_ends : (before now after : Source) (old new next : Option (List ℕ)) (line : List ℕ) (is_empty : Bool)
    → LineSoFar before now old new line is_empty → Consumes new next (10 ∷ []) → now.left ≡ after.left + 1 → TakesLine before after old next line
line_ends before now after old new next line is_empty so_far took left =
    record {
      text = so_far.text;
      is_kept = so_far.is_kept;
      plain = so_far.plain;
      taken = inl (Consumes-trans old new next so_far.text (10 ∷ []) so_far.taken took, let was = so_far.left in omega arith);
    }

pub last_ends : (before now after : Source) (old new next : Option (List ℕ)) (line : List ℕ) (is_empty : Bool)
    → LineSoFar before now old new line is_empty → is_empty ≡ false → Consumes new next [] → IsAtEnd next → now.left ≡ after.left → after.is_over ≡ true → TakesLine before after old next line
last_ends before now after old new next line is_empty so_far some took end left over =
    let e = so_far.empty in
    let was = so_far.left in
    record {
      text = so_far.text;
      is_kept = so_far.is_kept;
      plain = so_far.plain;
      taken = inr (
        subst (λ (bytes : List ℕ). Consumes old next bytes) (append-nil so_far.text) (Consumes-trans old new next so_far.text [] so_far.taken took),
        omega arith,
        grind (arith, nat_tests),
        end,
        over,
      );
    }

at_end : (a b : Option (List ℕ)) → Consumes a b [] → IsAtEnd b → IsAtEnd a
at_end None b took end = tt
at_end (Some x) None took end = absurd took
at_end (Some x) (Some y) took end = took ∙ end

nothing : (text : List ℕ) → length text ≡ 0 → text ≡ []
nothing [] none = refl
nothing (b ∷ text) none = absurd (omega arith)

pub input_ends : (before now : Source) (old new next : Option (List ℕ)) (line : List ℕ) (is_empty : Bool)
    → LineSoFar before now old new line is_empty → is_empty ≡ true → Consumes new next [] → IsAtEnd next → IsAtEnd old
input_ends before now old new next line is_empty so_far none took end =
    let e = so_far.empty in
    let size : length so_far.text ≡ 0 = grind (arith, nat_tests) in
    at_end old new (subst (λ (bytes : List ℕ). Consumes old new bytes) (nothing so_far.text size) so_far.taken) (at_end new next took end)

pub line_untaken : (before now after : Source) (old new next : Option (List ℕ)) (line : List ℕ) (is_empty : Bool) (fault : TalkFault)
    → LineSoFar before now old new line is_empty → IsByteless now after new next fault → IsUntaken before after old next fault
line_untaken before now after old new next line is_empty Read so_far why =
    record {
      text = so_far.text;
      plain = so_far.plain;
      taken = subst (λ (bytes : List ℕ). Consumes old next bytes) (append-nil so_far.text) (Consumes-trans old new next so_far.text [] so_far.taken why.2);
      not_over = so_far.over ∙ why.0.1;
      drained = why.1;
    }
line_untaken before now after old new next line is_empty TooLong so_far why =
    let was = so_far.left in
    let none = why.0 in
    record {
      text = so_far.text;
      whole = omega arith;
      plain = so_far.plain;
      taken = subst (λ (bytes : List ℕ). Consumes old next bytes) (append-nil so_far.text) (Consumes-trans old new next so_far.text [] so_far.taken why.1);
      more = why.2;
    }
line_untaken before now after old new next line is_empty _ so_far why = absurd why
