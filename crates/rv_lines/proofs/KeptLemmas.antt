-- The last line at or below an address.
use Rattle.std.proofs.Common.{suc, ◌≡◌, ◌∙◌, sym, ap, refl, arith, true, Option, Some, None, List, [], ◌∷◌, ◌++◌, ℕ, ◌+◌, ◌-◌, ◌<◌, ◌≤◌, length, take, drop, get_or, map, length-drop}
use Rattle.std.specs.Prelude.{Bool, ◌||◌}
use Rattle.std.specs.List.{fold, list_any}
use Rattle.std.proofs.lemmas.Bool.{le-leb, lt-leb, ltb-true}
use Rattle.std.proofs.lemmas.Grind.{common_steps, fold-append}
use Rattle.std.proofs.lemmas.List.{get_or-drop, take-append-drop, take_more}
use Rattle.std.proofs.lemmas.List.Sorted.{IsNonDecreasingBy-push}
use Rattle.rv_lines.specs.SourceLines.{SourceFrame, SourceLine, frames_at, frames_in, framed_from, may_follow}
use Rattle.rv_lines.specs.internal.Kept.{AreAscending, line_of, told_at, told_from}
use Rattle.rv_lines.specs.declared.lines.KeptLine.{KeptLine}

told_from-reached : (address : ℕ) (frames : List SourceFrame) (x : KeptLine) → x.address ≤ address → told_from address frames x ≡ frames_in x.text.items
told_from-reached address frames x le = rw (le-leb x.address address le) refl

told_from-ahead : (address : ℕ) (frames : List SourceFrame) (x : KeptLine) → address < x.address → told_from address frames x ≡ frames
told_from-ahead address frames x lt = rw (lt-leb x.address address lt) refl

-- lines that begin behind an address don't tell it
stays : (address : ℕ) (frames : List SourceFrame) (lines : List KeptLine) → ((k : ℕ) (d : KeptLine) → k < length lines → address < (get_or lines k d).address)
    → fold (told_from address) frames lines ≡ frames
stays address frames [] ahead = refl
stays address frames (x ∷ lines) ahead =
    ap (λ (fs : List SourceFrame). fold (told_from address) fs lines) (told_from-ahead address frames x (ahead 0 x (omega arith)))
    ∙ stays address frames lines (λ k d lt. ahead (suc k) d (omega arith))

pub told_at-none : (lines : List KeptLine) (address : ℕ) → ((k : ℕ) (d : KeptLine) → k < length lines → address < (get_or lines k d).address) → told_at lines address ≡ []
unfolding told_at
told_at-none lines address ahead = stays address [] lines ahead

told_at-more : (lines : List KeptLine) (x : KeptLine) (address : ℕ) → told_at (lines ++ x ∷ []) address ≡ told_from address (told_at lines address) x
unfolding told_at
told_at-more lines x address = fold-append (told_from address) [] lines (x ∷ [])

tells-next : (lines : List KeptLine) (i : ℕ) (x : KeptLine) (address : ℕ) → i < length lines → x ≡ get_or lines i x
    → told_at (take (i + 1) lines) address ≡ told_from address (told_at (take i lines) address) x
tells-next lines i x address lt is =
    ap (λ taken. told_at taken address) (take_more lines i x lt) ∙ ap (λ last. told_at (take i lines ++ last ∷ []) address) (sym is)
    ∙ told_at-more (take i lines) x address

told_at-front : (lines : List KeptLine) (n address : ℕ) → n ≤ length lines → ((k : ℕ) (d : KeptLine) → n ≤ k → k < length lines → address < (get_or lines k d).address)
    → told_at lines address ≡ told_at (take n lines) address
unfolding told_at
told_at-front lines n address le ahead =
    ap (fold (told_from address) []) (sym (take-append-drop n lines)) ∙ fold-append (told_from address) [] (take n lines) (drop n lines)
    ∙ stays address (fold (told_from address) [] (take n lines)) (drop n lines)
    (λ k d lt. omega (arith, ahead (n + k) d (omega arith) (omega (arith, length-drop n lines)), ap (λ (l : KeptLine). l.address) (get_or-drop n lines k d)))

pub told_at-last : (lines : List KeptLine) (last : ℕ) (x : KeptLine) (address : ℕ) → last < length lines → x ≡ get_or lines last x → x.address ≤ address
    → ((k : ℕ) (d : KeptLine) → last + 1 ≤ k → k < length lines → address < (get_or lines k d).address) → told_at lines address ≡ frames_in x.text.items
told_at-last lines last x address lt is le ahead =
    told_at-front lines (last + 1) address (omega arith) ahead ∙ tells-next lines last x address lt is ∙ told_from-reached address (told_at (take last lines) address) x le

-- ---- lines as they are kept, and what they say

folded : (address : ℕ) (frames : List SourceFrame) (lines : List KeptLine) → fold (told_from address) frames lines ≡ fold (framed_from address) frames (map line_of lines)
folded address frames [] = refl
folded address frames (x ∷ lines) = folded address (told_from address frames x) lines

pub kept_frames : (lines : List KeptLine) (address : ℕ) → told_at lines address ≡ frames_at (map line_of lines) address
unfolding told_at
kept_frames lines address = folded address [] lines

pub any_kept : (test : SourceLine → Bool) (lines : List KeptLine) → list_any (λ line. test (line_of line)) lines ≡ list_any test (map line_of lines)
any_kept test [] = refl
any_kept test (x ∷ lines) = ap (λ (b : Bool). test (line_of x) || b) (any_kept test lines)

-- ---- a line more

-- the last line's address is the one before
abbrev pub IsReached : Option ℕ → List KeptLine → Type 0
IsReached before lines = (d : KeptLine) → 0 < length lines → before ≡ Some (get_or lines (length lines - 1) d).address

last-more : (lines : List KeptLine) (x d : KeptLine) → get_or (lines ++ x ∷ []) (length (lines ++ x ∷ []) - 1) d ≡ x
last-more lines x d = grind (arith, common_steps)

pub reached_more : (lines : List KeptLine) (x : KeptLine) → IsReached (Some x.address) (lines ++ x ∷ [])
reached_more lines x = λ d some. ap (λ (l : KeptLine). Some l.address) (sym (last-more lines x d))

below : (before : Option ℕ) (last address : ℕ) → before ≡ Some last → may_follow before address ≡ true → last ≤ address
below None last address is follows = absurd (cc)
below (Some b) last address is follows = let same : b ≡ last = cc in omega (arith, ltb-true b address follows)

pub ascending_more : (before : Option ℕ) (lines : List KeptLine) (x : KeptLine) → AreAscending lines → IsReached before lines → may_follow before x.address ≡ true
    → AreAscending (lines ++ x ∷ [])
ascending_more before lines x ascending reached follows =
    IsNonDecreasingBy-push (λ (l : KeptLine). l.address) lines x ascending (λ d some. below before (get_or lines (length lines - 1) d).address x.address (reached d some) follows)
