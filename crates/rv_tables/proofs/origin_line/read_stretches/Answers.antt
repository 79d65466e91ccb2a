use Rattle.std.proofs.Common.{◌≡◌, ◌∙◌, List, ℕ, None, Some, true, false, ap, sym}
use Rattle.std.specs.Prelude.{drop, not, slice_get}
use Rattle.std.proofs.lemmas.Bool.{not-false, not-true}
use Rattle.rv_tables.specs.Origin.{is_behind, is_first, stretch_in, stretches_in}
use Rattle.rv_tables.proofs.OriginLemmas.{early_stretch, next_stretch, no_stretch, none_left, other_word}
use Rattle.rv_tables.proofs.ReadLemmas as lines
use Rattle.rv_tables.proofs.origin_line.read_stretches.Goals as goal

pub returns-in_default : goal.returns-in_default
returns-in_default c =
    let none : None ≡ slice_get c.words.words 0 = cc in
    let words = lines.none_left c.words.words none in
    sym (c.words.invariant ∙ ap (λ (ws : List (List ℕ)). stretches_in c.words.stretches.items ws) words ∙ none_left c.words.stretches.items)

pub returns-then-ne : goal.returns-then-ne
returns-then-ne c =
    let first : Some c.in-Some.word.now ≡ slice_get c.words.words 0 = cc in
    let words = lines.first_and_others c.words.words c.next_piece.new.self c.in-Some.word.now first c.in-Some.ensures.rest in
    let other : not (is_first c.in-Some.word.now) ≡ true = cc in
    sym (c.words.invariant ∙ ap (λ (ws : List (List ℕ)). stretches_in c.words.stretches.items ws) words
    ∙ other_word c.words.stretches.items c.in-Some.word.now c.next_piece.new.self (not-true (is_first c.in-Some.word.now) other))

pub returns-in_default-read_stretch : goal.returns-in_default-read_stretch
returns-in_default-read_stretch c =
    let first : Some c.in-Some.word.now ≡ slice_get c.words.words 0 = cc in
    let words = lines.first_and_others c.words.words c.next_piece.new.self c.in-Some.word.now first c.in-Some.ensures.rest in
    let same : not (is_first c.in-Some.word.now) ≡ false = cc in
    let none : stretch_in c.next_piece.new.self ≡ None = cc in
    sym (c.words.invariant ∙ ap (λ (ws : List (List ℕ)). stretches_in c.words.stretches.items ws) words
    ∙ no_stretch c.words.stretches.items c.in-Some.word.now c.next_piece.new.self (not-false (is_first c.in-Some.word.now) same) none)

pub returns-then-not-is_behind : goal.returns-then-not-is_behind
returns-then-not-is_behind c =
    let first : Some c.in-Some.word.now ≡ slice_get c.words.words 0 = cc in
    let words = lines.first_and_others c.words.words c.next_piece.new.self c.in-Some.word.now first c.in-Some.ensures.rest in
    let same : not (is_first c.in-Some.word.now) ≡ false = cc in
    let is : stretch_in c.next_piece.new.self ≡ Some c.in-Some-read_stretch.stretch = cc in
    let early : not (is_behind c.words.stretches.items c.in-Some-read_stretch.stretch) ≡ true = cc in
    sym (c.words.invariant ∙ ap (λ (ws : List (List ℕ)). stretches_in c.words.stretches.items ws) words
    ∙ early_stretch c.words.stretches.items c.in-Some.word.now c.next_piece.new.self c.in-Some-read_stretch.stretch (not-false (is_first c.in-Some.word.now) same) is
    (not-true (is_behind c.words.stretches.items c.in-Some-read_stretch.stretch) early))

pub words-preserved : goal.words-preserved
words-preserved c =
    let first : Some c.in-Some.word.now ≡ slice_get c.words.words 0 = c.in-Some.ensures.first in
    let words = lines.first_and_others c.words.words c.next_piece.new.self c.in-Some.word.now first c.in-Some.ensures.rest in
    let same : not (is_first c.in-Some.word.now) ≡ false = cc in
    let is : stretch_in c.next_piece.new.self ≡ Some c.in-Some-read_stretch.stretch = cc in
    let behind : not (is_behind c.words.stretches.items c.in-Some-read_stretch.stretch) ≡ false = cc in
    let rest : c.read_stretch.new.words ≡ drop 3 c.next_piece.new.self = c.in-Some-read_stretch.ensures.rest in
    rw (c.in_ok-push.ensures.items, rest)
    (c.words.invariant ∙ ap (λ (ws : List (List ℕ)). stretches_in c.words.stretches.items ws) words
    ∙ next_stretch c.words.stretches.items c.in-Some.word.now c.next_piece.new.self c.in-Some-read_stretch.stretch (not-false (is_first c.in-Some.word.now) same) is
    (not-false (is_behind c.words.stretches.items c.in-Some-read_stretch.stretch) behind))
