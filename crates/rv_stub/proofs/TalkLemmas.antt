-- Talks that go on, byte by byte, and how they end.
use Rattle.std.proofs.Common.{◌≡◌, ℕ, ◌+◌, ◌-◌, ◌<◌, ◌≤◌, true, false, List, [], ◌∷◌, ◌++◌, Option, Some, None, length, take, drop, refl, sym, ap, subst, ◌∙◌, arith, append-nil, append_assoc, length-append}
use Rattle.std.specs.Prelude.{IfSome}
use Rattle.std.specs.Io.KnownBytes.{Appends, Consumes, IsAtEnd, Keeps, append_known}
use Rattle.std.proofs.KnownBytes.{Appends-kept, Appends-nil, Appends-trans, Consumes-nil, Consumes-trans, Keeps-refl}
use Rattle.std.proofs.Math.Seq.{take-append_seam}
use Rattle.std.proofs.lemmas.List.{length-drop, length-take-le, take-append-drop, take-take}
use Rattle.rv_memory.specs.declared.flagged.TheConstants.{INPUT_LIMIT}
use Rattle.rv_stub.specs.Heard.{Conversation, IsTurn, Turn, Turns, writes}
use Rattle.rv_stub.specs.Talk.{IsBroken, IsCutOff, IsTalk, IsWhole, Talks}

-- ---- a talk goes on

talks_join : (c : Conversation) (xs ys t u : List ℕ) (mid end : Conversation) → Talks c xs t mid → Talks mid ys u end → Talks c (xs ++ ys) (t ++ u) end
talks_join c [] ys t u mid end front back =
    let same : t ++ u ≡ u = ap (λ l. l ++ u) front.0 in
    subst (λ (l : List ℕ). Talks c ys l end) (sym same) (subst (λ (m : Conversation). Talks m ys u end) front.1 back)
talks_join c (byte ∷ xs) ys t u mid end front back =
    let turn = front.0 in
    let rest = front.1.0 in
    let parts = front.1.1 in (
      turn,
      (
        rest ++ u,
        (
          parts.0,
          talks_join turn.after xs ys rest u mid end parts.1 back,
          ap (λ l. l ++ u) parts.2 ∙ append_assoc turn.written rest u,
        ),
      ),
    )

talks_one : (c : Conversation) (byte : ℕ) (turn : Turn) → IsTurn c byte turn → Talks c (byte ∷ []) turn.written turn.after
talks_one c byte turn is = (turn, ([], (is, (refl, refl), sym (append-nil turn.written))))

-- where the talk is over the rest is dropped
talks_over : (c : Conversation) (bytes : List ℕ) → c.is_over ≡ true → Talks c bytes [] c
talks_over c [] over = (refl, refl)
talks_over c (byte ∷ bytes) over =
    let is : IsTurn c byte (writes c []) = rw over refl in (writes c [], ([], (is, talks_over c bytes over, refl)))

pub talk_none : (c : Conversation) (a : Option (List ℕ)) → IsTalk c [] c (Appends a a)
talk_none c a = record { text = []; talks = (refl, refl); written = Appends-nil a }

pub talk_on : (c mid end : Conversation) (xs ys : List ℕ) (a b d : Option (List ℕ)) → IsTalk c xs mid (Appends a b) → IsTalk mid ys end (Appends b d) → IsTalk c (xs ++ ys) end (Appends a d)
talk_on c mid end xs ys a b d front back =
    record {
      text = front.text ++ back.text;
      talks = talks_join c xs ys front.text back.text mid end front.talks back.talks;
      written = Appends-trans a b d front.text back.text front.written back.written;
    }

one_turn : (c next : Conversation) (byte : ℕ) (a b : Option (List ℕ)) → Turns (IsTurn c byte) next (Appends a b) → IsTalk c (byte ∷ []) next (Appends a b)
one_turn c next byte a b turned =
    record {
      text = turned.turn.written;
      talks = subst (λ (end : Conversation). Talks c (byte ∷ []) turned.turn.written end) (sym turned.goes_on) (talks_one c byte turned.turn turned.is_one);
      written = turned.written;
    }

pub talk_more : (c now next : Conversation) (bytes : List ℕ) (byte : ℕ) (a b d : Option (List ℕ)) → IsTalk c bytes now (Appends a b) → Turns (IsTurn now byte) next (Appends b d) → IsTalk c (bytes ++ byte ∷ []) next (Appends a d)
talk_more c now next bytes byte a b d so_far turned = talk_on c now next bytes (byte ∷ []) a b d so_far (one_turn now next byte b d turned)

-- what is pending is nothing
pub handed : (a sent : Option (List ℕ)) (pending : List ℕ) → Keeps a sent → pending ≡ [] → Keeps a (append_known sent pending)
handed None sent pending keeps none = tt
handed (Some x) None pending keeps none = absurd keeps
handed (Some x) (Some y) pending keeps none = ap (λ l. y ++ l) none ∙ append-nil y ∙ keeps

-- the same of what is sent of a text
pub handed_on : (a sent : Option (List ℕ)) (pending text : List ℕ) → Appends a sent text → pending ≡ [] → Appends a (append_known sent pending) text
handed_on a sent pending text put none = Appends-kept a sent (append_known sent pending) text put (handed sent sent pending (Keeps-refl sent) none)

pub talk_kept : (c end : Conversation) (bytes : List ℕ) (a b sent : Option (List ℕ)) → IsTalk c bytes end (Appends a b) → Keeps b sent → IsTalk c bytes end (Appends a sent)
talk_kept c end bytes a b sent talk keeps =
    record { text = talk.text; talks = talk.talks; written = Appends-kept a b sent talk.text talk.written keeps }

-- ---- how far an input is

-- these bytes were read, all of them were told to the talk, and it is not over
pub record SoFar (limit : ℕ) (start now : Conversation) (all rest : Option (List ℕ)) (left : ℕ) (a b : Option (List ℕ)) : Type 0 where
  pub read : List ℕ
  pub taken : Consumes all rest read
  pub count : length read + left ≡ limit
  pub talk : IsTalk start read now (Appends a b)
  pub goes_on : now.is_over ≡ false

pub SoFar-none : (limit : ℕ) (start : Conversation) (all a : Option (List ℕ)) → start.is_over ≡ false → SoFar limit start start all all limit a a
SoFar-none limit start all a goes_on =
    record { read = []; taken = Consumes-nil all; count = omega arith; talk = talk_none start a; goes_on = goes_on }

pub SoFar-more : (limit : ℕ) (start now next : Conversation) (all rest after : Option (List ℕ)) (left : ℕ) (bytes : List ℕ) (a b sent c d : Option (List ℕ)) → SoFar limit start now all rest left a b
    → Consumes rest after bytes → length bytes ≤ left → Keeps b c → IsTalk now bytes next (Appends c d) → next.is_over ≡ false → SoFar limit start next all after (left - length bytes) a d
SoFar-more limit start now next all rest after left bytes a b sent c d so_far took few keeps talk goes_on =
    let size = length-append so_far.read bytes in
    let was = so_far.count in
    record {
      read = so_far.read ++ bytes;
      taken = Consumes-trans all rest after so_far.read bytes so_far.taken took;
      count = omega arith;
      talk = talk_on start now next so_far.read bytes a c d (talk_kept start now so_far.read a b c so_far.talk keeps) talk;
      goes_on = goes_on;
    }

-- ---- how it ends

whole_read : (start now : Conversation) (input rest read : List ℕ) (Writes : List ℕ → Type 0) → IsTalk start read now Writes → input ≡ read ++ rest → rest ≡ [] → IsWhole start input Writes
whole_read start now input rest read Writes talk is none =
    let same : input ≡ read = is ∙ ap (λ l. read ++ l) none ∙ append-nil read in
    record { end = now; talk = subst (λ (l : List ℕ). IsTalk start l now Writes) (sym same) talk }

pub ended_talk : (limit : ℕ) (start now : Conversation) (all rest after : Option (List ℕ)) (left : ℕ) (a b sent : Option (List ℕ)) → SoFar limit start now all rest left a b
    → Consumes rest after [] → IsAtEnd after → Keeps b sent → IfSome all (λ input. IsWhole start input (Appends a sent))
ended_talk limit start now None rest after left a b sent so_far took none keeps = tt
ended_talk limit start now (Some input) None after left a b sent so_far took none keeps = absurd so_far.taken
ended_talk limit start now (Some input) (Some rest) None left a b sent so_far took none keeps = absurd took
ended_talk limit start now (Some input) (Some rest) (Some after) left a b sent so_far took none keeps =
    whole_read start now input rest so_far.read (Appends a sent) (talk_kept start now so_far.read a b sent so_far.talk keeps) so_far.taken (took ∙ none)

-- the talk is over, and what is left of the input is dropped
whole_over : (start now : Conversation) (input rest read : List ℕ) (Writes : List ℕ → Type 0) → IsTalk start read now Writes → input ≡ read ++ rest → now.is_over ≡ true → IsWhole start input Writes
whole_over start now input rest read Writes talk is over =
    let all = talks_join start read rest talk.text [] now now talk.talks (talks_over now rest over) in
    record {
      end = now;
      talk = record {
        text = talk.text;
        talks = subst (λ (l : List ℕ). Talks start l talk.text now) (sym is) (subst (λ (t : List ℕ). Talks start (read ++ rest) t now) (append-nil talk.text) all);
        written = talk.written;
      };
    }

pub over_talk : (limit : ℕ) (start now next : Conversation) (all rest after : Option (List ℕ)) (left : ℕ) (bytes front back : List ℕ) (a b c d sent : Option (List ℕ)) → SoFar limit start now all rest left a b
    → Consumes rest after bytes → bytes ≡ front ++ back → Keeps b c → IsTalk now front next (Appends c d) → next.is_over ≡ true → Keeps d sent → IfSome all (λ input. IsWhole start input (Appends a sent))
over_talk limit start now next None rest after left bytes front back a b c d sent so_far took is keeps talk over kept = tt
over_talk limit start now next (Some input) None after left bytes front back a b c d sent so_far took is keeps talk over kept = absurd so_far.taken
over_talk limit start now next (Some input) (Some rest) None left bytes front back a b c d sent so_far took is keeps talk over kept = absurd took
over_talk limit start now next (Some input) (Some rest) (Some after) left bytes front back a b c d sent so_far took is keeps talk over kept =
    let joined = talk_on start now next so_far.read front a c d (talk_kept start now so_far.read a b c so_far.talk keeps) talk in
    let parts : input ≡ (so_far.read ++ front) ++ (back ++ after) =
    so_far.taken ∙ ap (λ l. so_far.read ++ l) (took ∙ ap (λ l. l ++ after) is ∙ append_assoc front back after) ∙ sym (append_assoc so_far.read front (back ++ after)) in
    whole_over start next input (back ++ after) (so_far.read ++ front) (Appends a sent) (talk_kept start next (so_far.read ++ front) a d sent joined kept) parts over

cut_at : (n m : ℕ) (xs : List ℕ) → n ≤ m → take m xs ≡ take n xs ++ drop n (take m xs)
cut_at n m xs few = sym (take-append-drop n (take m xs)) ∙ ap (λ l. l ++ drop n (take m xs)) (take-take n m xs few)

-- ---- how it stops

take_whole : (xs ys : List ℕ) (n : ℕ) → length xs ≡ n → take n (xs ++ ys) ≡ xs
take_whole xs ys n is = subst (λ m. take m (xs ++ ys) ≡ xs) is (take-append_seam xs ys)

pub cut_talk : (start now next : Conversation) (all rest after : Option (List ℕ)) (left : ℕ) (bytes front back : List ℕ) (a b c d sent : Option (List ℕ)) → SoFar INPUT_LIMIT start now all rest left a b
    → Consumes rest after bytes → bytes ≡ front ++ back → length front ≡ left → 0 < length back → Keeps b c → IsTalk now front next (Appends c d) → next.is_over ≡ false → Keeps d sent
    → IfSome all (λ input. IsCutOff start input (Appends a sent))
cut_talk start now next None rest after left bytes front back a b c d sent so_far took is size more keeps talk goes_on kept = tt
cut_talk start now next (Some input) None after left bytes front back a b c d sent so_far took is size more keeps talk goes_on kept = absurd so_far.taken
cut_talk start now next (Some input) (Some rest) None left bytes front back a b c d sent so_far took is size more keeps talk goes_on kept = absurd took
cut_talk start now next (Some input) (Some rest) (Some after) left bytes front back a b c d sent so_far took is size more keeps talk goes_on kept =
    let joined = talk_on start now next so_far.read front a c d (talk_kept start now so_far.read a b c so_far.talk keeps) talk in
    let parts : input ≡ (so_far.read ++ front) ++ (back ++ after) =
    so_far.taken ∙ ap (λ l. so_far.read ++ l) (took ∙ ap (λ l. l ++ after) is ∙ append_assoc front back after) ∙ sym (append_assoc so_far.read front (back ++ after)) in
    let was = so_far.count in
    let read = length-append so_far.read front in
    let behind = length-append back after in
    let long = ap length parts ∙ length-append (so_far.read ++ front) (back ++ after) in
    let full : length (so_far.read ++ front) ≡ INPUT_LIMIT = omega arith in
    let same : take INPUT_LIMIT input ≡ so_far.read ++ front = ap (take INPUT_LIMIT) parts ∙ take_whole (so_far.read ++ front) (back ++ after) INPUT_LIMIT full in
    record {
      long = omega arith;
      end = next;
      talk = subst (λ (l : List ℕ). IsTalk start l next (Appends a sent)) (sym same) (talk_kept start next (so_far.read ++ front) a d sent joined kept);
      goes_on = goes_on;
    }

still : (all rest after : Option (List ℕ)) (read : List ℕ) → Consumes all rest read → Keeps rest after → Consumes all after read
still None rest after read took keeps = tt
still (Some x) None after read took keeps = absurd took
still (Some x) (Some y) None read took keeps = absurd keeps
still (Some x) (Some y) (Some z) read took keeps = took ∙ ap (λ l. read ++ l) (sym keeps)

pub broken_talk : (limit : ℕ) (start now : Conversation) (all rest after : Option (List ℕ)) (left : ℕ) (a b sent : Option (List ℕ)) → SoFar limit start now all rest left a b → Keeps rest after → Keeps b sent
    → IfSome all (λ input. IsBroken start input after (Appends a sent))
broken_talk limit start now None rest after left a b sent so_far keeps kept = tt
broken_talk limit start now (Some input) rest after left a b sent so_far keeps kept =
    record {
      read = so_far.read;
      is_read = still (Some input) rest after so_far.read so_far.taken keeps;
      end = now;
      talk = talk_kept start now so_far.read a b sent so_far.talk kept;
      is_heard = rw so_far.goes_on refl;
    }

-- the talk is over, and the reader fails where an acknowledgment is waited for
pub over_broken : (limit : ℕ) (start now next : Conversation) (all rest after later : Option (List ℕ)) (left count within : ℕ) (chunk more : List ℕ) (a b c d sent : Option (List ℕ)) → SoFar limit start now all rest left a b
    → Consumes rest after (take count chunk) → Consumes after later more → within ≤ count → Keeps b c → IsTalk now (take within chunk) next (Appends c d) → next.is_over ≡ true → next.acknowledges ≡ true → Keeps d sent
    → IfSome all (λ input. IsBroken start input later (Appends a sent))
over_broken limit start now next None rest after later left count within chunk more a b c d sent so_far took on few keeps talk over waits kept = tt
over_broken limit start now next (Some input) rest after later left count within chunk more a b c d sent so_far took on few keeps talk over waits kept =
    let front = take within chunk in
    let back = drop within (take count chunk) in
    let joined = talk_kept start next (so_far.read ++ front) a d sent (talk_on start now next so_far.read front a c d (talk_kept start now so_far.read a b c so_far.talk keeps) talk) kept in
    let all_of = talks_join start (so_far.read ++ front) (back ++ more) joined.text [] next next joined.talks (talks_over next (back ++ more) over) in
    let parts : (so_far.read ++ take count chunk) ++ more ≡ (so_far.read ++ front) ++ (back ++ more) =
    ap (λ l. (so_far.read ++ l) ++ more) (cut_at within count chunk few) ∙ append_assoc so_far.read (front ++ back) more ∙ ap (λ l. so_far.read ++ l) (append_assoc front back more) ∙ sym (append_assoc so_far.read front (back ++ more)) in
    record {
      read = (so_far.read ++ take count chunk) ++ more;
      is_read = Consumes-trans (Some input) after later (so_far.read ++ take count chunk) more (Consumes-trans (Some input) rest after so_far.read (take count chunk) so_far.taken took) on;
      end = next;
      talk = record {
        text = joined.text;
        talks = subst (λ (l : List ℕ). Talks start l joined.text next) (sym parts) (subst (λ (t : List ℕ). Talks start ((so_far.read ++ front) ++ (back ++ more)) t next) (append-nil joined.text) all_of);
        written = joined.written;
      };
      is_heard = rw (over, waits) refl;
    }

-- ---- one read

pub over_read : (limit : ℕ) (start now next : Conversation) (all rest after : Option (List ℕ)) (left count within : ℕ) (chunk : List ℕ) (a b c d sent : Option (List ℕ)) → SoFar limit start now all rest left a b
    → Consumes rest after (take count chunk) → within ≤ count → Keeps b c → IsTalk now (take within chunk) next (Appends c d) → next.is_over ≡ true → Keeps d sent → IfSome all (λ input. IsWhole start input (Appends a sent))
over_read limit start now next all rest after left count within chunk a b c d sent so_far took few keeps talk over kept =
    over_talk limit start now next all rest after left (take count chunk) (take within chunk) (drop within (take count chunk)) a b c d sent so_far took (cut_at within count chunk few) keeps talk over kept

pub cut_read : (start now next : Conversation) (all rest after : Option (List ℕ)) (left count within : ℕ) (chunk : List ℕ) (a b c d sent : Option (List ℕ)) → SoFar INPUT_LIMIT start now all rest left a b
    → Consumes rest after (take count chunk) → count ≤ length chunk → within < count → within ≡ left → Keeps b c → IsTalk now (take within chunk) next (Appends c d) → next.is_over ≡ false → Keeps d sent
    → IfSome all (λ input. IsCutOff start input (Appends a sent))
cut_read start now next all rest after left count within chunk a b c d sent so_far took fits cut full keeps talk goes_on kept =
    let size = length-take-le within chunk (omega arith) in
    let whole = length-take-le count chunk fits in
    let behind = length-drop within (take count chunk) in
    cut_talk start now next all rest after left (take count chunk) (take within chunk) (drop within (take count chunk)) a b c d sent so_far took (cut_at within count chunk (omega arith)) (size ∙ full) (omega arith) keeps talk goes_on kept

pub more_read : (limit : ℕ) (start now next : Conversation) (all rest after : Option (List ℕ)) (left count within : ℕ) (chunk : List ℕ) (a b c d : Option (List ℕ)) → SoFar limit start now all rest left a b
    → Consumes rest after (take count chunk) → count ≤ length chunk → within ≡ count → within ≤ left → Keeps b c → IsTalk now (take within chunk) next (Appends c d) → next.is_over ≡ false → SoFar limit start next all after (left - count) a d
more_read limit start now next all rest after left count within chunk a b c d so_far took fits all_of room keeps talk goes_on =
    let size = length-take-le count chunk fits in
    let told : IsTalk now (take count chunk) next (Appends c d) = subst (λ n. IsTalk now (take n chunk) next (Appends c d)) all_of talk in
    subst (λ n. SoFar limit start next all after (left - n) a d) size (SoFar-more limit start now next all rest after left (take count chunk) a b c c d so_far took (omega arith) keeps told goes_on)
