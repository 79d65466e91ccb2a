-- What the locked value keeps, after each of its calls.
use Rattle.std.proofs.Common.{◌≡◌, ℕ, ◌+◌, true, false, cond, List, [], refl, sym, ap, subst, ◌∙◌, arith}
use Rattle.std.specs.Prelude.{IsTrue, not}
use Rattle.rv_drive.specs.Able.{is_due}
use Rattle.rv_collide.specs.Answers.{Turns}
use Rattle.rv_drive.specs.DriverLaws.{DrawsGoOn}
use Rattle.rv_drive.specs.Draws.{arms_or_disarms, draws, first_draws, is_resumed, next_index}
use Rattle.rv_collide.specs.Plan.{Numbers}
use Rattle.rv_collide.specs.Stored.{Stored, added, setting_of, stored}
use Rattle.rv_collide.specs.declared.collider.Turned.{Turned}
use Rattle.rv_collide.specs.declared.collider.Turned.TheVariants as turned
use Rattle.rv_collide.specs.declared.entry.Entry.{Entry}
use Rattle.rv_collide.specs.declared.entry.Entry.TheVariants.{Stepped, Paused, Resumed}
use Rattle.rv_elf.specs.Contents.{Contents}
use Rattle.rv_drive.specs.Sampling.{begun, drew, opened, sampling, sampling_of}
use Rattle.rv_locked.specs.internal.Watching.{IsWatching}
use Rattle.rv_locked.proofs.ArmsLemmas.{after_draws, after_resumption, after_turn, long_more}
use Rattle.rv_sample.specs.Sites.{sites}
use Rattle.rv_sample.specs.Generator.{Given}

abbrev given : ℕ → ℕ → Given
given seed taken = record { seed = seed; stream = 0; taken = taken }

-- ---- a turn

not_a_resumption : (e : Entry) (hart : ℕ) → is_resumed e ≡ false → e ≡ Resumed hart → ⊥
not_a_resumption e hart stays is = (let differ : false ≡ true = sym stays ∙ ap is_resumed is in cc)

plus_none : (n : ℕ) → n + 0 ≡ n
plus_none n = omega arith

after_entry : DrawsGoOn → (old new : Stored) (e : Entry) (among : List ℕ) (words : Given) (image : Contents) (seed : ℕ) → IsWatching old among words image seed → new ≡ added old e → is_resumed e ≡ false → IsTrue (not (arms_or_disarms e)) → IsWatching new among words image seed
after_entry go old new e among words image seed w is stays arms_none =
    subst (λ (s : Stored). IsWatching s among words image seed) (sym is)
    (record {
      long = long_more (setting_of old) old.entries e w.long (λ hart same. absurd (not_a_resumption e hart stays same));
      arms = after_turn go (setting_of old) (sampling old.image seed) old.entries e w.arms stays arms_none;
      sites_are = w.sites_are;
      words_are = w.words_are ∙ ap (given seed) (sym (go.index is_resumed old.entries e ∙ ap (λ b. next_index is_resumed old.entries + cond b 1 0) stays ∙ plus_none (next_index is_resumed old.entries)));
      image_is = w.image_is;
    })

pub turned_on : DrawsGoOn → (old new : Stored) (h : ℕ) (t : Turned) (among : List ℕ) (words : Given) (image : Contents) (seed : ℕ) → IsWatching old among words image seed → Turns old new h t → IsWatching new among words image seed
turned_on go old new h (turned.Stepped event) among words image seed w turns =
    after_entry go old new (Stepped h) among words image seed w turns.0.is_added refl refl
turned_on go old new h (turned.Paused slot) among words image seed w turns =
    after_entry go old new (Paused h slot) among words image seed w turns.is_added refl refl

-- ---- the end of a pause

pub drew_on : (old mid new : Stored) (h : ℕ) (among : List ℕ) (words : Given) (image : Contents) (seed : ℕ) → IsWatching old among words image seed → mid ≡ added old (Resumed h) → new ≡ drew (sampling_of among words.seed words.stream) words.taken mid → new ≡ drew (sampling old.image seed) (next_index is_resumed old.entries) (added old (Resumed h))
drew_on old mid new h among words image seed w resumes draws =
    draws
    ∙ ap (λ (g : Given). drew (sampling_of among g.seed g.stream) g.taken mid) w.words_are
    ∙ ap (λ (xs : List ℕ). drew (sampling_of xs seed 0) (next_index is_resumed old.entries) mid) w.sites_are
    ∙ ap (drew (sampling old.image seed) (next_index is_resumed old.entries)) resumes

pub ended_on : DrawsGoOn → (old new : Stored) (h : ℕ) (among : List ℕ) (words after : Given) (image : Contents) (seed : ℕ) → IsWatching old among words image seed → is_due (setting_of old) old.entries h ≡ true → new ≡ drew (sampling old.image seed) (next_index is_resumed old.entries) (added old (Resumed h)) → after ≡ record words { taken = words.taken + 1 } → IsWatching new among after image seed
ended_on go old new h among words after image seed w due is one_more =
    let drawn = after_resumption go (setting_of old) (sampling old.image seed) old.entries h w.long w.arms due in
    subst (λ (s : Stored). IsWatching s among after image seed) (sym is)
    (record {
      long = drawn.long;
      arms = drawn.arms;
      sites_are = w.sites_are;
      words_are = one_more ∙ ap (λ (g : Given). record g { taken = g.taken + 1 }) w.words_are ∙ ap (given seed) drawn.taken_are;
      image_is = w.image_is;
    })

-- ---- the first draws

pub opened_is : (new : Stored) (image : Contents) (plan : Numbers) (seed : ℕ) (among : List ℕ) (words : Given) → words ≡ given seed 0 → among ≡ sites image [] → new ≡ begun image plan (sampling_of among words.seed words.stream) → new ≡ opened image plan seed
opened_is new image plan seed among words are sites_are gives =
    gives
    ∙ ap (λ (g : Given). begun image plan (sampling_of among g.seed g.stream)) are
    ∙ ap (λ (xs : List ℕ). begun image plan (sampling_of xs seed 0)) sites_are

pub opened_watches : DrawsGoOn → (new : Stored) (image copy : Contents) (plan : Numbers) (seed : ℕ) (among : List ℕ) (words after : Given) → new ≡ opened image plan seed → words ≡ given seed 0 → after ≡ record words { taken = first_draws } → among ≡ sites image [] → copy ≡ image → IsWatching new among after copy seed
opened_watches go new image copy plan seed among words after is are more sites_are same =
    let drawn = after_draws go (setting_of (stored image plan [])) (sampling image seed) in
    subst (λ (s : Stored). IsWatching s among after copy seed) (sym is)
    (record {
      long = drawn.long;
      arms = drawn.arms;
      sites_are = sites_are;
      words_are = more ∙ ap (λ (g : Given). record g { taken = first_draws }) are ∙ ap (given seed) drawn.taken_are;
      image_is = same;
    })
