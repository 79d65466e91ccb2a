-- A driver's calls, as a seeded run goes on.
use Rattle.std.proofs.Common.{◌≡◌, ℕ, ◌+◌, ◌^◌, ◌<◌, ◌≤◌, List, [], ◌++◌, length, Some, None, refl, sym, ap, subst, ◌∙◌, arith, length-append}
use Rattle.std.specs.Option.{option_to_list}
use Rattle.std.proofs.lemmas.List.Sums.{count_by-le-length}
use Rattle.rv_campaign.specs.Kept.{IsCoreOf, Source}
use Rattle.rv_campaign.specs.Run.{IsRunOver, sampling_of}
use Rattle.rv_campaign.specs.internal.Driving.{IsDriving, SameRun}
use Rattle.rv_drive.specs.Able.{due}
use Rattle.rv_drive.specs.Drawn.{IsDrawn, driven, turns_and_resumptions}
use Rattle.rv_drive.specs.DriverLaws.{AddsItsKind, DrawsGoOn}
use Rattle.rv_drive.specs.Draws.{Sampling, draw, draws, first_draws}
use Rattle.rv_collide.specs.Answers.{IsOutput}
use Rattle.rv_collide.specs.Forced.{Setting}
use Rattle.rv_collide.specs.Numbers.{numbers}
use Rattle.rv_collide.specs.Plan.{Numbers}
use Rattle.rv_collide.specs.Stored.{Stored, added, setting_of, stored}
use Rattle.rv_collide.specs.Verdict.{endings}
use Rattle.rv_collide.specs.declared.collider.Finished.{Finished}
use Rattle.rv_elf.specs.Contents.{Contents}
use Rattle.rv_collide.specs.declared.entry.Entry.{Entry}
use Rattle.rv_collide.specs.declared.entry.Entry.TheVariants.{Resumed}
use Rattle.rv_drive.specs.Sampling.{begun}
use Rattle.rv_drive.specs.Turns.{TakesTurns}
use Rattle.rv_sample.specs.Generator.{Given, word_at}
use Rattle.rv_campaign.proofs.DrivingLemmas.{after_draws, after_resumption, after_turns, whole_run}

pub opened_drives : DrawsGoOn → (driver : Stored) (image : Contents) (plan : Numbers) (sites : List ℕ) (before after : Given) → driver ≡ begun image plan (sampling_of sites before.seed before.stream) → after ≡ record before { taken = first_draws } → IsDriving (setting_of driver) (sampling_of sites after.seed after.stream) driver.entries after.taken
opened_drives go driver image plan sites before after is words =
    let sampling = sampling_of sites before.seed before.stream in
    let core = after_draws go (setting_of (stored image plan [])) sampling (draws (setting_of (stored image plan [])) sampling first_draws) first_draws refl refl in
    let at_driver = subst (λ (s : Stored). IsDriving (setting_of s) sampling s.entries first_draws) (sym is) core in
    subst (λ (w : Given). IsDriving (setting_of driver) (sampling_of sites w.seed w.stream) driver.entries w.taken) (sym words) at_driver

pub resumed_on : DrawsGoOn → (old mid new : Stored) (sites : List ℕ) (before after : Given) (hart : ℕ) → IsDriving (setting_of old) (sampling_of sites before.seed before.stream) old.entries before.taken → due (setting_of old) old.entries ≡ Some hart → mid ≡ added old (Resumed hart) → new ≡ record mid { entries = mid.entries ++ option_to_list (draw (setting_of mid) (sampling_of sites before.seed before.stream) mid.entries before.taken) } → after ≡ record before { taken = before.taken + 1 } → IsDriving (setting_of new) (sampling_of sites after.seed after.stream) new.entries after.taken
resumed_on go old mid new sites before after hart d is resumes gives words =
    let core = after_resumption go (setting_of old) (sampling_of sites before.seed before.stream) old.entries before.taken hart d is in
    let at_mid = subst (λ (s : Stored). IsDriving (setting_of s) (sampling_of sites before.seed before.stream) (s.entries ++ option_to_list (draw (setting_of s) (sampling_of sites before.seed before.stream) s.entries before.taken)) (before.taken + 1)) (sym resumes) core in
    let at_new = subst (λ (s : Stored). IsDriving (setting_of s) (sampling_of sites before.seed before.stream) s.entries (before.taken + 1)) (sym gives) at_mid in
    subst (λ (w : Given). IsDriving (setting_of new) (sampling_of sites w.seed w.stream) new.entries w.taken) (sym words) at_new

pub turns_on : DrawsGoOn → AddsItsKind → (old new : Stored) (sites : List ℕ) (before after : Given) → IsDriving (setting_of old) (sampling_of sites before.seed before.stream) old.entries before.taken → TakesTurns old new (word_at before.seed before.stream) before.taken after.taken → after ≡ record before { taken = after.taken } → IsDriving (setting_of new) (sampling_of sites after.seed after.stream) new.entries after.taken
turns_on go kind old new sites before after d takes words =
    let core = after_turns go kind (setting_of old) (sampling_of sites before.seed before.stream) old.entries takes.turns before.taken d takes.are_picked in
    let at_next = subst (λ (n : ℕ). IsDriving (setting_of old) (sampling_of sites before.seed before.stream) (old.entries ++ takes.turns) n) (sym takes.next_is) core in
    let at_new = subst (λ (s : Stored). IsDriving (setting_of s) (sampling_of sites before.seed before.stream) s.entries after.taken) (sym takes.are_added) at_next in
    subst (λ (w : Given). IsDriving (setting_of new) (sampling_of sites w.seed w.stream) new.entries after.taken) (sym words) at_new

-- so few words are taken that there are more
pub few_words : (setting : Setting) (sampling : Sampling) (xs : List Entry) (taken most : ℕ) → IsDriving setting sampling xs taken → length xs ≤ most → most ≤ 1_016_384 → taken + 2 ^ 32 < 2 ^ 64
few_words setting sampling xs taken most d few range =
    let taken_are = d.taken_are in
    let counted = count_by-le-length turns_and_resumptions xs in
    omega (arith, taken_are, counted, few, range)

-- turns make the list longer
pub turns_longer : (old new : Stored) (word : ℕ → ℕ) (first next : ℕ) → TakesTurns old new word first next → first < next → length old.entries < length new.entries
turns_longer old new word first next takes more =
    let long = ap (λ (s : Stored). length s.entries) takes.are_added ∙ length-append old.entries takes.turns in
    let next_is = takes.next_is in
    omega (arith, long, next_is, more)

pub turns_same : (old new : Stored) (before after : Given) (word : ℕ → ℕ) → TakesTurns old new word before.taken after.taken → after ≡ record before { taken = after.taken } → SameRun old new before after
turns_same old new before after word takes words = record {
  image = ap (λ (s : Stored). s.image) takes.are_added;
  plan = ap (λ (s : Stored). s.plan) takes.are_added;
  seed = ap (λ (w : Given). w.seed) words;
  stream = ap (λ (w : Given). w.stream) words;
}

abbrev Drawn : List ℕ → Contents → Numbers → ℕ → ℕ → List Entry → Type 0
Drawn sites image plan seed run entries = IsDrawn (setting_of (stored image plan [])) (sampling_of sites seed run) entries

pub made : (source : Source) (plan : Numbers) (run : ℕ) (d core : Stored) (w : Given) → d.image ≡ source.image → d.plan ≡ plan → w.seed ≡ source.seed → w.stream ≡ run → IsDriving (setting_of d) (sampling_of source.sites w.seed w.stream) d.entries w.taken → driven (setting_of d) (sampling_of source.sites w.seed w.stream) d.entries ≡ None → core ≡ d → IsCoreOf source plan run core
made source plan run d core w same_image same_plan same_seed same_run driving over is =
    let sites = source.sites in
    let whole : Drawn sites d.image d.plan w.seed w.stream d.entries = whole_run (setting_of d) (sampling_of sites w.seed w.stream) d.entries w.taken driving over in
    let by_image : Drawn sites source.image d.plan w.seed w.stream d.entries = subst (λ (i : Contents). Drawn sites i d.plan w.seed w.stream d.entries) same_image whole in
    let by_plan : Drawn sites source.image plan w.seed w.stream d.entries = subst (λ (p : Numbers). Drawn sites source.image p w.seed w.stream d.entries) same_plan by_image in
    let by_seed : Drawn sites source.image plan source.seed w.stream d.entries = subst (λ (k : ℕ). Drawn sites source.image plan k w.stream d.entries) same_seed by_plan in
    let by_run : Drawn sites source.image plan source.seed run d.entries = subst (λ (k : ℕ). Drawn sites source.image plan source.seed k d.entries) same_run by_seed in
    subst (λ (c : Stored). IsCoreOf source plan run c) (sym is) (record { image_is = same_image; plan_is = same_plan; drawn = by_run })

pub finished : (image : Contents) (plan : Numbers) (sites : List ℕ) (seed run : ℕ) (d : Stored) (told : Finished) → IsCoreOf (record { image = image; sites = sites; seed = seed }) plan run d → numbers told.plan ≡ d.plan → told.entries.items ≡ d.entries → told.endings.items ≡ endings (setting_of d).start d.entries → IsOutput d told.output.items → IsRunOver image plan sites seed run told
finished image plan sites seed run d told core plan_is entries_are endings_are output_is = record {
  plan_is = plan_is ∙ core.plan_is;
  drawn = subst (λ (es : List Entry). Drawn sites image plan seed run es) (sym entries_are) core.drawn;
  endings_are = endings_are
      ∙ ap (λ (i : Contents). endings (setting_of (stored i d.plan [])).start d.entries) core.image_is
      ∙ ap (λ (p : Numbers). endings (setting_of (stored image p [])).start d.entries) core.plan_is
      ∙ ap (endings (setting_of (stored image plan [])).start) (sym entries_are);
  output_is = subst (λ (es : List Entry). IsOutput (stored image plan es) told.output.items) (sym entries_are)
      (subst (λ (p : Numbers). IsOutput (stored image p d.entries) told.output.items) core.plan_is
      (subst (λ (i : Contents). IsOutput (stored i d.plan d.entries) told.output.items) core.image_is output_is));
}
