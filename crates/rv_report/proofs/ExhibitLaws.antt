-- An ending has one exhibit at most, and none where a fault is told.
use Rattle.std.proofs.Common.{◌≡◌, ◌≢◌, ℕ, zero, suc, ◌+◌, ◌≤◌, ◌<◌, ◌⊎◌, inl, inr, Bool, true, false, List, [], ◌∷◌, length, take, Some, None, Result, Ok, Err, refl, sym, ap, subst, ◌∙◌, arith}
use Rattle.std.specs.Prelude.{nat_lt, slice_get, IsOkAnd}
use Rattle.std.proofs.lemmas.Bool.Decides.{nat_tests}
use Rattle.std.proofs.lemmas.Option.{slice_get_past}
use Rattle.rv_collide.specs.Forced.{Setting, forced}
use Rattle.rv_collide.specs.Legal.{IsLegal, call_of}
use Rattle.rv_collide.specs.Made.{made}
use Rattle.rv_collide.specs.Replays.{IsFirstFault, IsWhy}
use Rattle.rv_collide.specs.Verdict.{endings}
use Rattle.rv_collide.specs.declared.ending.Ending.{Ending}
use Rattle.rv_collide.specs.declared.ending.Verdict.{Verdict}
use Rattle.rv_collide.specs.declared.ending.Verdict.TheVariants.{Hit, Changed, Quiet}
use Rattle.rv_collide.specs.declared.entry.Entry.{Entry}
use Rattle.rv_collide.specs.declared.refused.Refused.{Refused}
use Rattle.rv_collide.specs.declared.replay.Why.{Why}
use Rattle.rv_collide.specs.declared.replay.Why.TheVariants as why
use Rattle.rv_hart.specs.State.{State}
use Rattle.rv_report.specs.Exhibit.{IsLastStore, IsOther, IsReport, NoneOfAFault, OneExhibit, OneFault, harts_to, paused_word}
use Rattle.rv_report.specs.declared.exhibit.ExhibitFault.TheVariants as fault

some_same : {A : Type 0} → (x y : A) → Some x ≡ Some y → x ≡ y
some_same x y h = cc

none_some : {A : Type 0} → {x : A} → None ≡ Some x → ⊥
none_some h = cc

-- ---- a report is one, and its other access is at one place

ordered : (p q : ℕ) → (p < q) ⊎ ((q < p) ⊎ (p ≡ q))
ordered p q = by_tests (nat_lt p q) (nat_lt q p) refl refl
  where
    by_tests : (b c : Bool) → nat_lt p q ≡ b → nat_lt q p ≡ c → (p < q) ⊎ ((q < p) ⊎ (p ≡ q))
    by_tests true c is other = let below : p < q = grind (arith, nat_tests) in inl below
    by_tests false true is other = let above : q < p = grind (arith, nat_tests) in inr (inl above)
    by_tests false false is other = let same : p ≡ q = grind (arith, nat_tests) in inr (inr same)

last_same : (start : State) (entries : List Entry) (told : Ending) (p q : ℕ) → IsLastStore start entries told p → IsLastStore start entries told q → p ≡ q
last_same start entries told p q one other =
    elim (ordered p q) [
      | inl below ↦ absurd (one.last q below other.before other.stores)
      | inr rest ↦ elim rest [ inl above ↦ absurd (other.last p above one.before one.stores) | inr same ↦ same ]
    ]

same_place : (start : State) (entries : List Entry) (told : Ending) (v : Verdict) (p q : ℕ) → IsOther start entries told v p → IsOther start entries told v q → p ≡ q
same_place start entries told (Hit seen) p q one other = some_same p q (sym one ∙ other)
same_place start entries told Changed p q one other = last_same start entries told p q one other
same_place start entries told Quiet p q one other = absurd one

record SameReport (told again : Ending) (place there : ℕ) : Type 0 where
  pub ending : told ≡ again
  pub at : place ≡ there

same_report : (start : State) (entries : List Entry) (n : ℕ) (told again : Ending) (place there : ℕ) → IsReport start entries n told place → IsReport start entries n again there → SameReport told again place there
same_report start entries n told again place there one other =
    let same : told ≡ again = some_same told again (sym one.is_ending ∙ other.is_ending) in
    record {
      ending = same;
      at = same_place start entries told told.verdict place there one.is_other (subst (λ (x : Ending). IsOther start entries x x.verdict there) (sym same) other.is_other);
    }

pub one_exhibit : OneExhibit
one_exhibit setting entries n one other a b =
    let same = same_report setting.start entries n a.told b.told a.place b.place a.report b.report in
    let to : harts_to entries a.place a.told.hart ≡ harts_to entries b.place b.told.hart =
    ap (λ (p : ℕ). harts_to entries p a.told.hart) same.at ∙ ap (λ (x : Ending). harts_to entries b.place x.hart) same.ending in
    record {
      harts = a.harts_are ∙ to ∙ sym b.harts_are;
      first = some_same one.first other.first (sym a.first_is ∙ ap (made setting.start entries) same.at ∙ b.first_is);
      second = a.second_is ∙ ap (λ (x : Ending). x.access) same.ending ∙ sym b.second_is;
    }

-- ---- what excludes what

is_quiet : (start : State) (entries : List Entry) (n : ℕ) (told again : Ending) (place : ℕ) → slice_get (endings start entries) n ≡ Some told → told.verdict ≡ Quiet → IsReport start entries n again place → ⊥
is_quiet start entries n told again place there quiet report =
    let same : again ≡ told = some_same again told (sym report.is_ending ∙ there) in
    subst (λ (v : Verdict). IsOther start entries again v place) (ap (λ (x : Ending). x.verdict) same ∙ quiet) report.is_other

is_past : (start : State) (entries : List Entry) (n : ℕ) (told : Ending) → length (endings start entries) ≤ n → slice_get (endings start entries) n ≡ Some told → ⊥
is_past start entries n told past there = none_some (sym (slice_get_past (endings start entries) n past) ∙ there)

is_changed : (start : State) (entries : List Entry) (n : ℕ) (told again : Ending) (place there : ℕ) → IsReport start entries n told place → IsReport start entries n again there → paused_word start entries told told.paused_at ≡ paused_word start entries told (place + 1) → paused_word start entries again again.paused_at ≢ paused_word start entries again (there + 1) → ⊥
is_changed start entries n told again place there one other same_word other_word =
    let same = same_report start entries n told again place there one other in
    let moved = subst (λ (p : ℕ). paused_word start entries told told.paused_at ≡ paused_word start entries told (p + 1)) same.at same_word in
    other_word (subst (λ (x : Ending). paused_word start entries x x.paused_at ≡ paused_word start entries x (there + 1)) same.ending moved)

why_not : (answer : Result Entry Refused) (entry : Entry) (reason : Why) → answer ≡ Ok entry → IsWhy answer entry reason → ⊥
why_not answer entry (why.Refused refused) ok told = err_ok answer refused entry told ok
  where
    err_ok : (answer : Result Entry Refused) (refused : Refused) (entry : Entry) → answer ≡ Err refused → answer ≡ Ok entry → ⊥
    err_ok answer refused entry err ok = cc
why_not answer entry why.Differs ok told =
    let differs : entry ≢ entry = subst (λ (r : Result Entry Refused). IsOkAnd r (λ other. other ≢ entry)) ok told in
    differs refl

is_legal : (setting : Setting) (entries : List Entry) (place : ℕ) (reason : Why) → IsLegal setting entries → IsFirstFault setting entries place reason → ⊥
is_legal setting entries place reason legal f =
    why_not (forced setting (take place entries) (call_of f.entry)) f.entry reason (legal place f.entry f.there) f.told

pub none_of_a_fault : NoneOfAFault
none_of_a_fault setting entries n exhibit fault.NoEnding known told x = is_past setting.start entries n x.told told.past x.report.is_ending
none_of_a_fault setting entries n exhibit fault.NotReport known told x = is_quiet setting.start entries n told.told x.told x.place told.is_ending told.quiet x.report
none_of_a_fault setting entries n exhibit fault.TextChanged known told x = is_changed setting.start entries n x.told told.told x.place told.place x.report told.report x.same_word told.other_word
none_of_a_fault setting entries n exhibit fault.NoMemory known told x = known refl
none_of_a_fault setting entries n exhibit (fault.Replay place reason) known told x = is_legal setting entries place reason x.legal told

-- ---- two faults

take_less : (xs : List Entry) (p q : ℕ) → p ≤ q → take p (take q xs) ≡ take p xs
take_less xs zero q le = refl
take_less xs (suc p) zero le = absurd (omega arith)
take_less [] (suc p) (suc q) le = refl
take_less (x ∷ xs) (suc p) (suc q) le = ap (λ (ys : List Entry). x ∷ ys) (take_less xs p q (omega arith))

get_kept : (xs : List Entry) (n i : ℕ) → i < n → slice_get (take n xs) i ≡ slice_get xs i
get_kept xs zero i below = absurd (omega arith)
get_kept [] (suc n) i below = refl
get_kept (x ∷ xs) (suc n) zero below = refl
get_kept (x ∷ xs) (suc n) (suc i) below = get_kept xs n i (omega arith)

not_before : (setting : Setting) (entries : List Entry) (p q : ℕ) (one other : Why) → IsFirstFault setting entries p one → IsFirstFault setting entries q other → p < q → ⊥
not_before setting entries p q one other a b below =
    let le : p ≤ q = omega arith in
    let ok = b.legal p a.entry (get_kept entries q p below ∙ a.there) in
    why_not (forced setting (take p entries) (call_of a.entry)) a.entry one
    (subst (λ (ys : List Entry). forced setting ys (call_of a.entry) ≡ Ok a.entry) (take_less entries p q le) ok) a.told

same_why : (answer : Result Entry Refused) (entry : Entry) (one other : Why) → IsWhy answer entry one → IsWhy answer entry other → one ≡ other
same_why answer entry (why.Refused a) (why.Refused b) told again = cc
same_why answer entry why.Differs why.Differs told again = refl
same_why answer entry (why.Refused a) why.Differs told again = absurd (subst (λ (r : Result Entry Refused). IsOkAnd r (λ other. other ≢ entry)) told again)
same_why answer entry why.Differs (why.Refused a) told again = absurd (subst (λ (r : Result Entry Refused). IsOkAnd r (λ other. other ≢ entry)) again told)

same_reason : (setting : Setting) (entries : List Entry) (p q : ℕ) (one other : Why) → p ≡ q → IsFirstFault setting entries p one → IsFirstFault setting entries q other → one ≡ other
same_reason setting entries p q one other same a b =
    let entry : b.entry ≡ a.entry = some_same b.entry a.entry (sym b.there ∙ ap (slice_get entries) (sym same) ∙ a.there) in
    let again = subst (λ (e : Entry). IsWhy (forced setting (take q entries) (call_of e)) e other) entry b.told in
    same_why (forced setting (take p entries) (call_of a.entry)) a.entry one other a.told
    (subst (λ (n : ℕ). IsWhy (forced setting (take n entries) (call_of a.entry)) a.entry other) (sym same) again)

same_first : (setting : Setting) (entries : List Entry) (p q : ℕ) (one other : Why) → IsFirstFault setting entries p one → IsFirstFault setting entries q other → fault.Replay p one ≡ fault.Replay q other
same_first setting entries p q one other a b =
    let same : p ≡ q = elim (ordered p q) [
      | inl below ↦ absurd (not_before setting entries p q one other a b below)
      | inr rest ↦ elim rest [ inl above ↦ absurd (not_before setting entries q p other one b a above) | inr same ↦ same ]
    ] in
    ap (λ (n : ℕ). fault.Replay n one) same ∙ ap (λ (w : Why). fault.Replay q w) (same_reason setting entries p q one other same a b)

pub one_fault : OneFault
one_fault setting entries n fault.NoMemory other known known' a b = absurd (known refl)
one_fault setting entries n one fault.NoMemory known known' a b = absurd (known' refl)
one_fault setting entries n fault.NoEnding fault.NoEnding known known' a b = refl
one_fault setting entries n fault.NotReport fault.NotReport known known' a b = refl
one_fault setting entries n fault.TextChanged fault.TextChanged known known' a b = refl
one_fault setting entries n (fault.Replay p one) (fault.Replay q other) known known' a b = same_first setting entries p q one other a b
one_fault setting entries n fault.NoEnding fault.NotReport known known' a b = absurd (is_past setting.start entries n b.told a.past b.is_ending)
one_fault setting entries n fault.NotReport fault.NoEnding known known' a b = absurd (is_past setting.start entries n a.told b.past a.is_ending)
one_fault setting entries n fault.NoEnding fault.TextChanged known known' a b = absurd (is_past setting.start entries n b.told a.past b.report.is_ending)
one_fault setting entries n fault.TextChanged fault.NoEnding known known' a b = absurd (is_past setting.start entries n a.told b.past a.report.is_ending)
one_fault setting entries n fault.NotReport fault.TextChanged known known' a b = absurd (is_quiet setting.start entries n a.told b.told b.place a.is_ending a.quiet b.report)
one_fault setting entries n fault.TextChanged fault.NotReport known known' a b = absurd (is_quiet setting.start entries n b.told a.told a.place b.is_ending b.quiet a.report)
one_fault setting entries n fault.NoEnding (fault.Replay q other) known known' a b = absurd (is_legal setting entries q other a.legal b)
one_fault setting entries n fault.NotReport (fault.Replay q other) known known' a b = absurd (is_legal setting entries q other a.legal b)
one_fault setting entries n fault.TextChanged (fault.Replay q other) known known' a b = absurd (is_legal setting entries q other a.legal b)
one_fault setting entries n (fault.Replay p one) fault.NoEnding known known' a b = absurd (is_legal setting entries p one b.legal a)
one_fault setting entries n (fault.Replay p one) fault.NotReport known known' a b = absurd (is_legal setting entries p one b.legal a)
one_fault setting entries n (fault.Replay p one) fault.TextChanged known known' a b = absurd (is_legal setting entries p one b.legal a)
