-- The first draws of a driver, one by one.
use Rattle.std.proofs.Common.{◌≡◌, ℕ, ◌+◌, List, [], ◌++◌, sym, ap, ◌∙◌, add-one, refl}
use Rattle.std.specs.Option.{option_to_list}
use Rattle.rv_collide.specs.Forced.{Setting}
use Rattle.rv_collide.specs.Plan.{Numbers}
use Rattle.rv_collide.specs.Stored.{Stored, setting_of, stored}
use Rattle.rv_collide.specs.declared.entry.Entry.{Entry}
use Rattle.rv_drive.specs.Draws.{Sampling, draw, draws, first_draws}
use Rattle.rv_drive.specs.Sampling.{begun, drew, sampling_of}
use Rattle.rv_elf.specs.Contents.{Contents}
use Rattle.rv_sample.specs.Generator.{Given}

one_draw_more : (setting : Setting) (sampling : Sampling) (n : ℕ) → draws setting sampling (n + 1) ≡ draws setting sampling n ++ option_to_list (draw setting sampling (draws setting sampling n) n)
unfolding draws
one_draw_more setting sampling n = ap (draws setting sampling) (add-one n)

pub no_draws : (setting : Setting) (sampling : Sampling) → draws setting sampling 0 ≡ []
unfolding draws
no_draws setting sampling = refl

pub entries_as : (first : Stored) (xs : List Entry) → first.entries ≡ xs → first ≡ record first { entries = xs }
entries_as first xs is = ap (λ (ys : List Entry). record first { entries = ys }) is

pub taken_as : (words : Given) (n : ℕ) → words.taken ≡ n → words ≡ record words { taken = n }
taken_as words n is = ap (λ (k : ℕ). record words { taken = k }) is

pub one_taken : (words before after : Given) (n : ℕ) → before ≡ record words { taken = n } → after ≡ record before { taken = before.taken + 1 } → after ≡ record words { taken = n + 1 }
one_taken words before after n is one_more = one_more ∙ ap (λ (g : Given). record g { taken = g.taken + 1 }) is

pub draw_more : (first now new : Stored) (among : List ℕ) (words before : Given) (n : ℕ) → now ≡ record first { entries = draws (setting_of first) (sampling_of among words.seed words.stream) n } → before ≡ record words { taken = n } → new ≡ drew (sampling_of among before.seed before.stream) before.taken now → new ≡ record first { entries = draws (setting_of first) (sampling_of among words.seed words.stream) (n + 1) }
draw_more first now new among words before n is taken draws_one =
    draws_one
    ∙ ap (λ (g : Given). drew (sampling_of among g.seed g.stream) g.taken now) taken
    ∙ ap (drew (sampling_of among words.seed words.stream) n) is
    ∙ ap (λ (xs : List Entry). record first { entries = xs }) (sym (one_draw_more (setting_of first) (sampling_of among words.seed words.stream) n))

pub begun_is : (first new : Stored) (image : Contents) (plan : Numbers) (sampling : Sampling) → first ≡ stored image plan [] → new ≡ record first { entries = draws (setting_of first) sampling first_draws } → new ≡ begun image plan sampling
begun_is first new image plan sampling is gives =
    gives ∙ ap (λ (s : Stored). record s { entries = draws (setting_of s) sampling first_draws }) is
