-- Lines that are taken of an input and answered, one after another.
use Rattle.std.proofs.Common.{suc, ◌≡◌, ℕ, ◌+◌, ◌<◌, Bool, true, false, ◌==◌, ◌&&◌, List, [], ◌∷◌, ◌++◌, Option, Some, None, length, take, refl, sym, ap, subst, ◌∙◌, inl, inr, arith, append-nil, append_assoc, cond, length-append, zero-add}
use Rattle.std.specs.Prelude.{◌⊎◌, IfSome, count_by, take_while}
use Rattle.std.specs.Io.KnownBytes.{Appends, Consumes, IsAtEnd, Keeps, append_known, prepend_known}
use Rattle.std.specs.List.{flat_map, list_all, onto_first}
use Rattle.std.proofs.KnownBytes.{Appends-kept, Appends-nil, Appends-trans}
use Rattle.std.proofs.Math.Seq.{take-append-add, take-append_seam}
use Rattle.std.proofs.lemmas.Bool.{and_parts, and_from, or_parts}
use Rattle.std.proofs.lemmas.Grind.{flat_map-append}
use Rattle.std.proofs.lemmas.List.Folds.{list_all-append}
use Rattle.std.proofs.lemmas.List.Sums.{sum_by-cons, take_while-cons}
use Rattle.rv_debug.specs.Placed.{Placed, moved}
use Rattle.rv_memory.specs.declared.flagged.TheConstants.{INPUT_LIMIT}
use Rattle.rv_text.specs.Decimal.{DecimalHasOneSpelling}
use Rattle.rv_text.specs.Lines.{has_line_feed, lines_of}
use Rattle.rv_debug.specs.Answered.{Answer, IsAnswered}
use Rattle.rv_debug.specs.Command.{command_of, is_quit}
use Rattle.rv_debug.specs.Talk.{Answers, IsBroken, IsCutOff, IsStopped, IsTalk, IsWithin, goes_on, lines_before_quit, whole_lines}
use Rattle.rv_debug.specs.internal.Lines.{HoldsNothing, IsHalted, IsPassed, IsUntaken, Source, TakesLine, rest_of}
use Rattle.rv_debug.specs.internal.Puts.{Puts}
use Rattle.rv_debug.specs.declared.fault.TalkFault.{TalkFault}
use Rattle.rv_debug.specs.declared.fault.TalkFault.TheVariants.{TooLong, Read}
use Rattle.rv_debug.proofs.CommandLemmas.{kept_command}

-- ---- lines

onward : (b : ℕ) (text : List ℕ) → (b == 10) ≡ false → lines_of (b ∷ text) ≡ onto_first b (lines_of text)
onward b text other = rw other refl

line_cut : (line rest : List ℕ) → has_line_feed line ≡ false → lines_of (line ++ 10 ∷ rest) ≡ line ∷ lines_of rest
line_cut [] rest plain = refl
line_cut (b ∷ line) rest plain =
    let parts = or_parts (b == 10) (has_line_feed line) plain in
    onward b (line ++ 10 ∷ rest) parts.0 ∙ ap (onto_first b) (line_cut line rest parts.1)

last_line : (line : List ℕ) → 0 < length line → has_line_feed line ≡ false → lines_of line ≡ line ∷ []
last_line [] some plain = absurd (omega arith)
last_line (b ∷ []) some plain = onward b [] (or_parts (b == 10) false plain).0
last_line (b ∷ d ∷ line) some plain =
    let parts = or_parts (b == 10) (has_line_feed (d ∷ line)) plain in
    onward b (d ∷ line) parts.0 ∙ ap (onto_first b) (last_line (d ∷ line) (omega arith) parts.1)

other_byte : (b : ℕ) (text : List ℕ) → (b == 10) ≡ false → count_by (λ byte. byte == 10) (b ∷ text) ≡ count_by (λ byte. byte == 10) text
other_byte b text other = sum_by-cons (λ byte. cond (byte == 10) 1 0) b text ∙ rw other (zero-add (count_by (λ byte. byte == 10) text))

feeds_cut : (line rest : List ℕ) → has_line_feed line ≡ false → count_by (λ byte. byte == 10) (line ++ 10 ∷ rest) ≡ suc (count_by (λ byte. byte == 10) rest)
feeds_cut [] rest plain = sum_by-cons (λ byte. cond (byte == 10) 1 0) 10 rest ∙ omega arith
feeds_cut (b ∷ line) rest plain =
    let parts = or_parts (b == 10) (has_line_feed line) plain in
    other_byte b (line ++ 10 ∷ rest) parts.0 ∙ feeds_cut line rest parts.1

no_feeds : (line : List ℕ) → has_line_feed line ≡ false → count_by (λ byte. byte == 10) line ≡ 0
no_feeds [] plain = refl
no_feeds (b ∷ line) plain =
    let parts = or_parts (b == 10) (has_line_feed line) plain in
    other_byte b line parts.0 ∙ no_feeds line parts.1

whole_cut : (line rest : List ℕ) → has_line_feed line ≡ false → whole_lines (line ++ 10 ∷ rest) ≡ line ∷ whole_lines rest
whole_cut line rest plain = rw (feeds_cut line rest plain, line_cut line rest plain) refl

no_whole : (line : List ℕ) → has_line_feed line ≡ false → whole_lines line ≡ []
no_whole line plain = rw (no_feeds line plain) refl

-- ---- how far an input is

-- the lines that were taken are whole: these are their bytes
pub record IsWhole (all rest : List ℕ) (done : List (List ℕ)) : Type 0 where
  pub read : List ℕ
  pub is_read : all ≡ read ++ rest
  pub lines : (more : List ℕ) → whole_lines (read ++ more) ≡ done ++ whole_lines more

-- The lines that were taken of an input, and how many more bytes it may have. The last of them may have no LF.
pub record Cut (limit : ℕ) (all rest : List ℕ) (done : List (List ℕ)) (source : Source) : Type 0 where
  pub lines : lines_of all ≡ done ++ lines_of rest
  pub whole : ((source.is_over ≡ true) × (rest ≡ [])) ⊎ IsWhole all rest done
  pub count : length all + source.left ≡ limit + length rest

abbrev pub IsAfter : ℕ → Option (List ℕ) → Option (List ℕ) → List (List ℕ) → Source → Type 0
IsAfter limit None rest done source = Unit {0}
IsAfter limit (Some all) None done source = ⊥
IsAfter limit (Some all) (Some rest) done source = Cut limit all rest done source

-- a source of which nothing was read
abbrev fresh : ℕ → Source
fresh limit = record { pending = []; left = limit; is_over = false }

cut_none : (limit : ℕ) (all : List ℕ) → Cut limit all all [] (fresh limit)
cut_none limit all = record { lines = refl; whole = inr (record { read = []; is_read = refl; lines = λ more. refl }); count = omega arith }

whole_more : (all rest next text : List ℕ) (done : List (List ℕ)) → IsWhole all rest done → rest ≡ (text ++ 10 ∷ []) ++ next → has_line_feed text ≡ false → IsWhole all next (done ++ text ∷ [])
whole_more all rest next text done whole is plain =
    record {
      read = whole.read ++ (text ++ 10 ∷ []);
      is_read = whole.is_read ∙ ap (λ l. whole.read ++ l) is ∙ sym (append_assoc whole.read (text ++ 10 ∷ []) next);
      lines = λ more.
          ap whole_lines (append_assoc whole.read (text ++ 10 ∷ []) more) ∙ whole.lines ((text ++ 10 ∷ []) ++ more)
          ∙ ap (λ l. done ++ whole_lines l) (append_assoc text (10 ∷ []) more) ∙ ap (λ l. done ++ l) (whole_cut text more plain)
          ∙ sym (append_assoc done (text ∷ []) (whole_lines more));
    }

cut_line : (limit : ℕ) (all rest next text : List ℕ) (done : List (List ℕ)) (before after : Source) → Cut limit all rest done before
    → rest ≡ (text ++ 10 ∷ []) ++ next → before.left ≡ length text + 1 + after.left → has_line_feed text ≡ false → Cut limit all next (done ++ text ∷ []) after
cut_line limit all rest next text done before after cut is room plain =
    let joined : rest ≡ text ++ 10 ∷ next = is ∙ append_assoc text (10 ∷ []) next in
    let size : length rest ≡ length text + (length next + 1) = ap length joined ∙ length-append text (10 ∷ next) ∙ omega arith in
    let count = cut.count in
    record {
      lines = cut.lines ∙ ap (λ l. done ++ lines_of l) joined ∙ ap (λ l. done ++ l) (line_cut text next plain) ∙ sym (append_assoc done (text ∷ []) (lines_of next));
      whole = elim cut.whole [
        | inl over ↦ (let none = ap length over.1 in absurd (omega arith))
        | inr whole ↦ inr (whole_more all rest next text done whole is plain)
      ];
      count = omega arith;
    }

cut_last : (limit : ℕ) (all rest next text : List ℕ) (done : List (List ℕ)) (before after : Source) → Cut limit all rest done before
    → rest ≡ text ++ next → before.left ≡ length text + after.left → 0 < length text → next ≡ [] → after.is_over ≡ true → has_line_feed text ≡ false → Cut limit all next (done ++ text ∷ []) after
cut_last limit all rest next text done before after cut is room some end over plain =
    let joined : rest ≡ text = is ∙ ap (λ l. text ++ l) end ∙ append-nil text in
    let size = ap length joined in
    let none = ap length end in
    let count = cut.count in
    record {
      lines = cut.lines ∙ ap (λ l. done ++ lines_of l) joined ∙ ap (λ l. done ++ l) (last_line text some plain) ∙ sym (append-nil (done ++ text ∷ [])) ∙ ap (λ l. (done ++ text ∷ []) ++ lines_of l) (sym end);
      whole = inl (over, end);
      count = omega arith;
    }

-- where there is more than the input may have, the lines are those within the limit
whole_within : (limit : ℕ) (all rest : List ℕ) (done : List (List ℕ)) (source : Source) → Cut limit all rest done source → source.left < length rest
    → whole_lines (take limit all) ≡ done ++ whole_lines (take source.left rest)
whole_within limit all rest done source cut more =
    elim cut.whole [
      | inl over ↦ (let none = ap length over.1 in absurd (omega arith))
      | inr whole ↦ (
          let size : length all ≡ length whole.read + length rest = ap length whole.is_read ∙ length-append whole.read rest in
          let count = cut.count in
          let room : limit ≡ length whole.read + source.left = omega arith in
          ap (λ l. whole_lines (take limit l)) whole.is_read ∙ ap (λ n. whole_lines (take n (whole.read ++ rest))) room
          ∙ ap whole_lines (take-append-add whole.read rest source.left) ∙ whole.lines (take source.left rest)
          )
    ]

-- one line more
after_more : (limit : ℕ) (all old new : Option (List ℕ)) (done : List (List ℕ)) (before after : Source) (line : List ℕ) → IsAfter limit all old done before
    → (took : TakesLine before after old new line) → IsAfter limit all new (done ++ took.text ∷ []) after
after_more limit None old new done before after line is took = tt
after_more limit (Some all) None new done before after line is took = absurd is
after_more limit (Some all) (Some rest) None done before after line is took =
    elim took.taken [ inl w ↦ absurd w.0 | inr w ↦ absurd w.0 ]
after_more limit (Some all) (Some rest) (Some next) done before after line is took =
    elim took.taken [
      | inl w ↦ cut_line limit all rest next took.text done before after is w.0 w.1 took.plain
      | inr w ↦ cut_last limit all rest next took.text done before after is w.0 w.1 w.2 w.3 w.4 took.plain
    ]

pub less_left : (before after : Source) (old new : Option (List ℕ)) (line : List ℕ) → TakesLine before after old new line → after.left < before.left
less_left before after old new line took =
    elim took.taken [
      | inl w ↦ (let room = w.1 in omega arith)
      | inr w ↦ (let room = w.1 in let some = w.2 in omega arith)
    ]

-- ---- the talk

answers_more : (lines : List (List ℕ)) (p now next : Placed) (texts : List (List ℕ)) (line : List ℕ) (answer : Answer) → Answers p lines texts now → IsAnswered now (command_of line) answer → next ≡ moved now answer.place
    → Answers p (lines ++ line ∷ []) (texts ++ answer.text ∷ []) next
answers_more [] p now next texts line answer was is goes =
    let same : now ≡ p = was.1 in (
      answer,
      (
        [],
        (
          subst (λ (q : Placed). IsAnswered q (command_of line) answer) same is,
          (refl, goes ∙ ap (λ q. moved q answer.place) same),
          ap (λ l. l ++ answer.text ∷ []) was.0,
        ),
      ),
    )
answers_more (first ∷ lines) p now next texts line answer was is goes =
    let rest = was.1.0 in
    let parts = was.1.1 in (
      was.0,
      (
        rest ++ answer.text ∷ [],
        (
          parts.0,
          answers_more lines (moved p was.0.place) now next rest line answer parts.1 is goes,
          ap (λ l. l ++ answer.text ∷ []) parts.2,
        ),
      ),
    )

while_all : {A : Type 0} (p : A → Bool) (xs ys : List A) → list_all p xs ≡ true → take_while p (xs ++ ys) ≡ xs ++ take_while p ys
while_all p [] ys all = refl
while_all p (x ∷ xs) ys all =
    let parts = and_parts (p x) (list_all p xs) all in
    take_while-cons p x (xs ++ ys) ∙ rw parts.0 (ap (λ l. x ∷ l) (while_all p xs ys parts.1))

abbrev pub joined : List (List ℕ) → List ℕ
joined texts = flat_map (λ text. text) texts

joined_more : (texts : List (List ℕ)) (text : List ℕ) → joined (texts ++ text ∷ []) ≡ joined texts ++ text
joined_more texts text = flat_map-append (λ text. text) texts (text ∷ []) ∙ ap (λ l. joined texts ++ l) (append-nil text)

-- the lines so far are answered, this is written, and the session stands there
pub record TalkSoFar (limit : ℕ) (start now : Placed) (all rest : Option (List ℕ)) (source : Source) (a b : Option (List ℕ)) : Type 0 where
  pub done : List (List ℕ)
  pub texts : List (List ℕ)
  pub answers : Answers start done texts now
  pub goes_on : list_all goes_on done ≡ true
  pub written : Appends a b (joined texts)
  pub after : IsAfter limit all rest done source

after_none : (limit : ℕ) (all : Option (List ℕ)) → IsAfter limit all (prepend_known [] all) [] (fresh limit)
after_none limit None = tt
after_none limit (Some all) = cut_none limit all

pub TalkSoFar-none : (limit : ℕ) (start : Placed) (all a : Option (List ℕ)) → TalkSoFar limit start start all (prepend_known [] all) (fresh limit) a a
TalkSoFar-none limit start all a = record { done = []; texts = []; answers = (refl, refl); goes_on = refl; written = Appends-nil a; after = after_none limit all }

-- what is pending is nothing
handed : (a sent : Option (List ℕ)) (pending : List ℕ) → Keeps a sent → pending ≡ [] → Keeps a (append_known sent pending)
handed None sent pending keeps none = tt
handed (Some x) None pending keeps none = absurd keeps
handed (Some x) (Some y) pending keeps none = ap (λ l. y ++ l) none ∙ append-nil y ∙ keeps

pub TalkSoFar-more : DecimalHasOneSpelling → (limit : ℕ) (start now next : Placed) (all old new : Option (List ℕ)) (before after : Source) (line : List ℕ) (a b sent c : Option (List ℕ)) (pending : List ℕ)
    → TalkSoFar limit start now all old before a b → TakesLine before after old new line → (is_quit (command_of line) ≡ false)
    → Keeps b sent → pending ≡ [] → Puts now (command_of line) next (Appends (append_known sent pending) c)
    → TalkSoFar limit start next all new after a c
TalkSoFar-more one_spelling limit start now next all old new before after line a b sent c pending so_far took on keeps none put =
    let same : command_of line ≡ command_of took.text = ap command_of took.is_kept ∙ kept_command one_spelling took.text in
    let is = subst (λ (m : Option _). IsAnswered now m put.answer) same put.answered in
    let on' : goes_on took.text ≡ true = rw (← same, on) refl in
    record {
      done = so_far.done ++ took.text ∷ [];
      texts = so_far.texts ++ put.answer.text ∷ [];
      answers = answers_more so_far.done start now next so_far.texts took.text put.answer so_far.answers is put.place;
      goes_on = list_all-append goes_on so_far.done (took.text ∷ []) ∙ and_from _ _ so_far.goes_on (and_from _ _ on' refl);
      written = rw (joined_more so_far.texts put.answer.text) (Appends-trans a (append_known sent pending) c (joined so_far.texts) put.answer.text (Appends-kept a b (append_known sent pending) (joined so_far.texts) so_far.written (handed b sent pending keeps none)) put.written);
      after = after_more limit all old new so_far.done before after line so_far.after took;
    }

-- ---- how it ends

told : {limit : ℕ} {start now : Placed} {all rest : Option (List ℕ)} {source : Source} {a b : Option (List ℕ)} (sent : Option (List ℕ)) (so_far : TalkSoFar limit start now all rest source a b) → Keeps b sent → IsTalk start so_far.done (Appends a sent)
told {now = now} {a = a} {b = b} sent so_far keeps =
    record { texts = so_far.texts; end = now; answers = so_far.answers; written = Appends-kept a b sent (joined so_far.texts) so_far.written keeps }

with_lines : (p : Placed) (lines lines' : List (List ℕ)) (W : List ℕ → Type 0) → lines' ≡ lines → IsTalk p lines W → IsTalk p lines' W
with_lines p lines lines' W same talk = rw same talk

pub ended_talk : (limit : ℕ) (start now : Placed) (all rest : Option (List ℕ)) (source : Source) (a b sent : Option (List ℕ)) (so_far : TalkSoFar limit start now all rest source a b) → IsAtEnd rest → Keeps b sent
    → IfSome all (λ input. IsTalk start (lines_before_quit (lines_of input)) (Appends a sent))
ended_talk limit start now None rest source a b sent so_far end keeps = tt
ended_talk limit start now (Some all) None source a b sent so_far end keeps = absurd so_far.after
ended_talk limit start now (Some all) (Some rest) source a b sent so_far end keeps =
    let lines = so_far.after.lines ∙ ap (λ l. so_far.done ++ lines_of l) end in
    with_lines start so_far.done _ (Appends a sent)
    (ap lines_before_quit lines ∙ while_all goes_on so_far.done [] so_far.goes_on ∙ append-nil so_far.done)
    (told sent so_far keeps)

quit_after : (limit : ℕ) (start now : Placed) (all old new : Option (List ℕ)) (before after : Source) (a b sent : Option (List ℕ)) (line : List ℕ) (so_far : TalkSoFar limit start now all old before a b)
    → IsAfter limit all new (so_far.done ++ line ∷ []) after → goes_on line ≡ false → Keeps b sent
    → IfSome all (λ input. IsTalk start (lines_before_quit (lines_of input)) (Appends a sent))
quit_after limit start now None old new before after a b sent line so_far is stops keeps = tt
quit_after limit start now (Some all) old None before after a b sent line so_far is stops keeps = absurd is
quit_after limit start now (Some all) old (Some rest) before after a b sent line so_far is stops keeps =
    let lines = is.lines ∙ append_assoc so_far.done (line ∷ []) (lines_of rest) in
    let none : take_while goes_on (line ∷ lines_of rest) ≡ [] = take_while-cons goes_on line (lines_of rest) ∙ rw stops refl in
    with_lines start so_far.done _ (Appends a sent)
    (ap lines_before_quit lines ∙ while_all goes_on so_far.done (line ∷ lines_of rest) so_far.goes_on ∙ ap (λ l. so_far.done ++ l) none ∙ append-nil so_far.done)
    (told sent so_far keeps)

pub quit_talk : DecimalHasOneSpelling → (limit : ℕ) (start now : Placed) (all old new : Option (List ℕ)) (before after : Source) (line : List ℕ) (a b sent : Option (List ℕ)) → TalkSoFar limit start now all old before a b
    → TakesLine before after old new line → is_quit (command_of line) ≡ true → Keeps b sent → IfSome all (λ input. IsTalk start (lines_before_quit (lines_of input)) (Appends a sent))
quit_talk one_spelling limit start now all old new before after line a b sent so_far took quits keeps =
    let same : command_of line ≡ command_of took.text = ap command_of took.is_kept ∙ kept_command one_spelling took.text in
    let stops : goes_on took.text ≡ false = rw (← same, quits) refl in
    quit_after limit start now all old new before after a b sent took.text so_far (after_more limit all old new so_far.done before after line so_far.after took) stops keeps

-- ---- how long it was

and_false : (test : Bool) → (test && false) ≡ false
and_false true = refl
and_false false = refl

quits_among : (done : List (List ℕ)) (line : List ℕ) (rest : List (List ℕ)) → goes_on line ≡ false → list_all goes_on ((done ++ line ∷ []) ++ rest) ≡ false
quits_among [] line rest stops = rw stops refl
quits_among (first ∷ done) line rest stops = ap (λ t. goes_on first && t) (quits_among done line rest stops) ∙ and_false (goes_on first)

pub within_end : (start now : Placed) (all rest : Option (List ℕ)) (source : Source) (a b : Option (List ℕ)) → TalkSoFar INPUT_LIMIT start now all rest source a b → IsAtEnd rest → IfSome all IsWithin
within_end start now None rest source a b so_far end = tt
within_end start now (Some all) None source a b so_far end = absurd so_far.after
within_end start now (Some all) (Some rest) source a b so_far end =
    let count = so_far.after.count in
    let none = ap length end in
    λ more. absurd (omega arith)

within_line : (all new : Option (List ℕ)) (done : List (List ℕ)) (line : List ℕ) (after : Source) → IsAfter INPUT_LIMIT all new (done ++ line ∷ []) after → goes_on line ≡ false → IfSome all IsWithin
within_line None new done line after is stops = tt
within_line (Some all) None done line after is stops = absurd is
within_line (Some all) (Some rest) done line after is stops =
    let count = is.count in
    λ more. ap (list_all goes_on) (whole_within INPUT_LIMIT all rest (done ++ line ∷ []) after is (omega arith)) ∙ quits_among done line (whole_lines (take after.left rest)) stops

pub within_quit : DecimalHasOneSpelling → (start now : Placed) (all old new : Option (List ℕ)) (before after : Source) (line : List ℕ) (a b : Option (List ℕ)) → TalkSoFar INPUT_LIMIT start now all old before a b
    → TakesLine before after old new line → is_quit (command_of line) ≡ true → IfSome all IsWithin
within_quit one_spelling start now all old new before after line a b so_far took quits =
    let same : command_of line ≡ command_of took.text = ap command_of took.is_kept ∙ kept_command one_spelling took.text in
    let stops : goes_on took.text ≡ false = rw (← same, quits) refl in
    within_line all new so_far.done took.text after (after_more INPUT_LIMIT all old new so_far.done before after line so_far.after took) stops

-- ---- how it stops

cut_off : (start now : Placed) (all rest : List ℕ) (before : Source) (new a b sent : Option (List ℕ)) (so_far : TalkSoFar INPUT_LIMIT start now (Some all) (Some rest) before a b) → IsPassed before (Some rest) new → Keeps b sent
    → IsCutOff start all (Appends a sent)
cut_off start now all rest before None a b sent so_far passed keeps = absurd passed.taken
cut_off start now all rest before (Some next) a b sent so_far passed keeps =
    let cut = so_far.after in
    let count = cut.count in
    let is : rest ≡ passed.text ++ next = passed.taken in
    let size : length rest ≡ length passed.text + length next = ap length is ∙ length-append passed.text next in
    let filled = passed.whole in
    let more : 0 < length next = passed.more in
    let front : take before.left rest ≡ passed.text = ap (λ n. take n rest) (sym filled) ∙ ap (take (length passed.text)) is ∙ take-append_seam passed.text next in
    let whole : whole_lines (take INPUT_LIMIT all) ≡ so_far.done =
    whole_within INPUT_LIMIT all rest so_far.done before cut (omega arith) ∙ ap (λ l. so_far.done ++ whole_lines l) front ∙ ap (λ l. so_far.done ++ l) (no_whole passed.text passed.plain) ∙ append-nil so_far.done in
    record {
      long = omega arith;
      talk = with_lines start so_far.done _ (Appends a sent) whole (told sent so_far keeps);
      goes_on = ap (list_all goes_on) whole ∙ so_far.goes_on;
    }

-- the rest of the input is what the reader still has
drained : (source : Source) (known : Option (List ℕ)) → HoldsNothing source → rest_of source known ≡ known
drained source None none = rw none.1 refl
drained source (Some bytes) none = rw (none.1, none.0) refl

taken_more : (all rest read text : List ℕ) (known : Option (List ℕ)) → all ≡ read ++ rest → Consumes (Some rest) known text → Consumes (Some all) known (read ++ text)
taken_more all rest read text None is took = absurd took
taken_more all rest read text (Some left) is took = is ∙ ap (λ l. read ++ l) took ∙ sym (append_assoc read text left)

broken : (start now : Placed) (all rest : List ℕ) (before after : Source) (known a b sent : Option (List ℕ)) (so_far : TalkSoFar INPUT_LIMIT start now (Some all) (Some rest) before a b)
    → IsHalted before after (Some rest) (rest_of after known) → Keeps b sent → IsBroken start all known (Appends a sent)
broken start now all rest before after known a b sent so_far halted keeps =
    let took : Consumes (Some rest) known halted.text = subst (λ (o : Option (List ℕ)). Consumes (Some rest) o halted.text) (drained after known halted.drained) halted.taken in
    elim so_far.after.whole [
      | inl over ↦ (let running = halted.not_over in let ended = over.0 in absurd cc)
      | inr whole ↦ (
          let lines : whole_lines (whole.read ++ halted.text) ≡ so_far.done =
          whole.lines halted.text ∙ ap (λ l. so_far.done ++ l) (no_whole halted.text halted.plain) ∙ append-nil so_far.done in
          record {
            read = whole.read ++ halted.text;
            is_read = taken_more all rest whole.read halted.text known whole.is_read took;
            talk = with_lines start so_far.done _ (Appends a sent) lines (told sent so_far keeps);
            goes_on = ap (list_all goes_on) lines ∙ so_far.goes_on;
          }
          )
    ]

stopped_known : (start now : Placed) (all rest : List ℕ) (before after : Source) (known a b sent : Option (List ℕ)) (fault : TalkFault) → TalkSoFar INPUT_LIMIT start now (Some all) (Some rest) before a b
    → IsUntaken before after (Some rest) (rest_of after known) fault → Keeps b sent → IsStopped start all known (Appends a sent) fault
stopped_known start now all rest before after known a b sent TooLong so_far why keeps = cut_off start now all rest before (rest_of after known) a b sent so_far why keeps
stopped_known start now all rest before after known a b sent Read so_far why keeps = broken start now all rest before after known a b sent so_far why keeps
stopped_known start now all rest before after known a b sent _ so_far why keeps = absurd why

pub stopped_talk : (start now : Placed) (all old : Option (List ℕ)) (before after : Source) (known a b sent : Option (List ℕ)) (fault : TalkFault) → TalkSoFar INPUT_LIMIT start now all old before a b
    → IsUntaken before after old (rest_of after known) fault → Keeps b sent → IfSome all (λ input. IsStopped start input known (Appends a sent) fault)
stopped_talk start now None old before after known a b sent fault so_far why keeps = tt
stopped_talk start now (Some all) None before after known a b sent fault so_far why keeps = absurd so_far.after
stopped_talk start now (Some all) (Some rest) before after known a b sent fault so_far why keeps = stopped_known start now all rest before after known a b sent fault so_far why keeps
