-- Up to which step each turn is a step that no claim is shown.
use Rattle.std.proofs.Common.{◌≡◌, ℕ, true, List, [], length, inl, inr, refl, sym, ap, ◌∙◌, arith}
use Rattle.std.specs.Prelude.{◌==◌, nat_lt, is_some, false, find, map}
use Rattle.std.specs.FinSet.{FinSet, len, len-empty}
use Rattle.std.specs.Ordering.{nat_cmp}
use Rattle.std.proofs.lemmas.Bool.Decides.{nat_tests}
use Rattle.rv_break.specs.Breakpoints.{Breaks, no_breaks}
use Rattle.rv_collide.specs.Armed.{armed}
use Rattle.rv_collide.specs.Entries.{steps}
use Rattle.rv_collide.specs.Pause.{Opening, opening_of, openings}
use Rattle.rv_collide.specs.Begun.{Begun, setting_of}
use Rattle.rv_collide.specs.declared.entry.Entry.{Entry}
use Rattle.rv_collide.specs.declared.open_pause.OpenPause.{OpenPause}
use Rattle.rv_collide.specs.internal.Core.{IsUntil, opening}
use Rattle.rv_collide.specs.internal.GoesOn.{GoesOn}
use Rattle.rv_collide.proofs.GoesOn.{unarmed}

pub until_new : (most slots : ℕ) (b : Breaks) (opened : List OpenPause) → b ≡ no_breaks slots → opened ≡ [] → IsUntil most b opened most
until_new most slots b opened is none =
    inr (refl, none, ap (λ (x : Breaks). len x.armed == 0) is ∙ ap (λ n. n == 0) (len-empty nat_cmp))

pub until_kept : (most until : ℕ) (b after : Breaks) (opened : List OpenPause) → after.armed ≡ b.armed → IsUntil most b opened until → IsUntil most after opened until
until_kept most until b after opened same (inl zero) = inl zero
until_kept most until b after opened same (inr is) = inr (is.0, is.1, ap (λ (s : FinSet nat_cmp). len s == 0) same ∙ is.2)

never : (n until : ℕ) → until ≡ 0 → nat_lt n until ≡ true → ⊥
never n until zero lt = grind (arith, nat_tests)

none_opened : (xs : List Entry) (opened : List OpenPause) → map opening opened ≡ openings xs → opened ≡ [] → openings xs ≡ []
none_opened xs opened are none = sym are ∙ ap (map opening) none

pub free_unwatched : (most until n : ℕ) (b : Breaks) (xs : List Entry) (opened : List OpenPause) → map opening opened ≡ openings xs → IsUntil most b opened until → nat_lt n until ≡ true → openings xs ≡ []
free_unwatched most until n b xs opened are (inl zero) lt = absurd (never n until zero lt)
free_unwatched most until n b xs opened are (inr is) lt = none_opened xs opened are is.1

none_of_hart : (xs : List Entry) (h : ℕ) → openings xs ≡ [] → is_some (opening_of xs h) ≡ false
unfolding opening_of
none_of_hart xs h none = ap (λ (os : List Opening). is_some (find (λ (o : Opening). o.hart == h) os)) none

pub free_goes_on : (c : Begun) (until : ℕ) (b : Breaks) (opened : List OpenPause) → map opening opened ≡ openings c.entries → b.armed ≡ armed (setting_of c).start c.entries → IsUntil c.plan.steps b opened until → nat_lt (length (steps c.entries)) until ≡ true → (h : ℕ) → GoesOn c h
free_goes_on c until b opened are armed_are (inl zero) lt h = absurd (never (length (steps c.entries)) until zero lt)
free_goes_on c until b opened are armed_are (inr is) lt h = record {
  free = none_of_hart c.entries h (none_opened c.entries opened are is.1);
  left = ap (nat_lt (length (steps c.entries))) (sym is.0) ∙ lt;
  passes = unarmed c h (ap (λ (s : FinSet nat_cmp). len s == 0) (sym armed_are) ∙ is.2);
}
