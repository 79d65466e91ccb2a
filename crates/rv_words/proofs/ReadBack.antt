use Rattle.std.proofs.Common.{◌≡◌, ℕ, ◌+◌, ◌^◌, ◌<◌, ◌≤◌, true, false, ◌==◌, nat_lt, nat_le, Some, Ok, All, List, [], ◌∷◌, ◌++◌, map, length, codes, refl, ◌∙◌, arith, append-nil}
use Rattle.std.specs.List.{flat_map, list_any}
use Rattle.std.specs.Fmt.{decimal}
use Rattle.std.proofs.lemmas.Bool.{or_from}
use Rattle.std.proofs.lemmas.Bool.Decides.{nat_tests}
use Rattle.std.proofs.lemmas.List.Elements.{All-head, All-tail}
use Rattle.std.proofs.lemmas.List.Folds.{list_any-append}
use Rattle.rv_text.specs.Numeral.{up_to}
use Rattle.rv_text.specs.Decimal.{decimal_of, DecimalIsReadBack, DecimalLacksSeparators}
use Rattle.rv_text.specs.Hexadecimal.{word_digits, WordIsReadBack, WordLacksSeparators}
use Rattle.rv_text.specs.Lines.{lines_of, has_line_feed, LinesAreReadBack}
use Rattle.rv_text.specs.Pieces.{pieces_of, Lacks, PiecesAreCut}
use Rattle.rv_hart.specs.declared.machine.TheConstants.{MOST_HARTS}
use Rattle.rv_words.specs.declared.input.TheConstants.{MOST_STEP, MOST_STEPS, MOST_WORDS}
use Rattle.rv_words.specs.HartsLine.{harts_of}
use Rattle.rv_words.specs.StepsLine.{numbers_of, steps_of}
use Rattle.rv_words.specs.WordsInput.{WordsInput, words_from, input_of}
use Rattle.rv_words.specs.WordsText.{text_of, InputIsReadBack}

module _ (decimals : DecimalIsReadBack) (lacks_separators : DecimalLacksSeparators) (cut : PiecesAreCut) where
  step_reads : (step : ℕ) → step ≤ MOST_STEP → up_to MOST_STEP (decimal_of (decimal step)) ≡ Some step
  step_reads step small =
      let fits : nat_le step MOST_STEP ≡ true = grind (arith, nat_tests) in
      rw (decimals step (omega arith), fits) refl

  -- a step and those after it
  numbers_read : (step : ℕ) (steps : List ℕ) → step ≤ MOST_STEP → All (λ s. s ≤ MOST_STEP) steps → numbers_of (pieces_of 32 (decimal step ++ flat_map (λ s. 32 ∷ decimal s) steps)) ≡ Some (step ∷ steps)
  numbers_read step [] small all =
      let lacks = lacks_separators 32 (omega arith) (decimal step) step (decimals step (omega arith)) in
      let pieces = cut 32 (decimal step) [] lacks in
      rw (append-nil (decimal step), pieces.1, step_reads step small) refl
  numbers_read step (next ∷ steps) small all =
      let lacks = lacks_separators 32 (omega arith) (decimal step) step (decimals step (omega arith)) in
      let pieces = cut 32 (decimal step) (decimal next ++ flat_map (λ s. 32 ∷ decimal s) steps) lacks in
      let rest = numbers_read next steps (All-head (λ s. s ≤ MOST_STEP) next steps all) (All-tail (λ s. s ≤ MOST_STEP) next steps all) in
      rw (pieces.0, step_reads step small, rest) refl

  steps_read : (steps : List ℕ) → length steps ≤ MOST_STEPS → All (λ s. s ≤ MOST_STEP) steps → steps_of (codes "steps" ++ flat_map (λ s. 32 ∷ decimal s) steps) ≡ Some steps
  unfolding steps_of
  steps_read [] few all = refl
  steps_read (step ∷ steps) few all =
      let fits : nat_le (length (step ∷ steps)) MOST_STEPS ≡ true = grind (arith, nat_tests) in
      rw (numbers_read step steps (All-head (λ s. s ≤ MOST_STEP) step steps all) (All-tail (λ s. s ≤ MOST_STEP) step steps all), fits) refl

  harts_read : (harts : ℕ) → 1 ≤ harts → harts ≤ MOST_HARTS → harts_of (codes "harts " ++ decimal harts) ≡ Some harts
  unfolding harts_of
  harts_read harts some most =
      let fits : nat_le harts MOST_HARTS ≡ true = grind (arith, nat_tests) in
      let more : (harts == 0) ≡ false = grind (arith, nat_tests) in
      rw (decimals harts (omega arith), fits, more) refl

  steps_lack : (steps : List ℕ) → All (λ s. s ≤ MOST_STEP) steps → Lacks 10 (flat_map (λ s. 32 ∷ decimal s) steps)
  steps_lack [] all = refl
  steps_lack (step ∷ steps) all =
      let small : step ≤ MOST_STEP = All-head (λ s. s ≤ MOST_STEP) step steps all in
      let here = lacks_separators 10 (omega arith) (decimal step) step (decimals step (omega arith)) in
      list_any-append (λ b. b == 10) (decimal step) (flat_map (λ s. 32 ∷ decimal s) steps) ∙ or_from _ _ here (steps_lack steps (All-tail (λ s. s ≤ MOST_STEP) step steps all))

module _ (words_back : WordIsReadBack) (lacks_separators : WordLacksSeparators) where
  words_read : (line : ℕ) (words : List ℕ) → line + length words ≤ 3 + MOST_WORDS → All (λ w. w < 2 ^ 32) words → words_from line (map word_digits words) ≡ Ok words
  words_read line [] few all = refl
  words_read line (word ∷ words) few all =
      let fits : nat_lt line (3 + MOST_WORDS) ≡ true = grind (arith, nat_tests) in
      let rest = words_read (line + 1) words (omega arith) (All-tail (λ w. w < 2 ^ 32) word words all) in
      rw (fits, words_back word (All-head (λ w. w < 2 ^ 32) word words all), rest) refl

  words_lack : (words : List ℕ) → All (λ w. w < 2 ^ 32) words → list_any has_line_feed (map word_digits words) ≡ false
  words_lack [] all = refl
  words_lack (word ∷ words) all =
      let reads = words_back word (All-head (λ w. w < 2 ^ 32) word words all) in
      or_from _ _ (lacks_separators 10 (omega arith) (word_digits word) word reads) (words_lack words (All-tail (λ w. w < 2 ^ 32) word words all))

-- what a text says whose lines say this
from_lines : (text first second : List ℕ) (rest : List (List ℕ)) (input : WordsInput) → lines_of text ≡ first ∷ second ∷ rest → harts_of first ≡ Some input.harts → steps_of second ≡ Some input.steps → words_from 3 rest ≡ Ok input.words → input_of text ≡ Ok input
unfolding input_of
from_lines text first second rest input lines harts steps words = rw (lines, harts, steps, words) refl

pub read_back : DecimalIsReadBack → DecimalLacksSeparators → WordIsReadBack → WordLacksSeparators → LinesAreReadBack → PiecesAreCut → InputIsReadBack
unfolding text_of
read_back decimals decimal_lacks words_back word_lacks lines_back cut input writable =
    let limits = writable.limits in
    let first = codes "harts " ++ decimal input.harts in
    let second = codes "steps" ++ flat_map (λ step. 32 ∷ decimal step) input.steps in
    let rest = map word_digits input.words in
    let harts_fit : input.harts < 2 ^ 64 = omega (arith, limits.harts) in
    let first_lacks : has_line_feed first ≡ false = decimal_lacks 10 (omega arith) (decimal input.harts) input.harts (decimals input.harts harts_fit) in
    let second_lacks : has_line_feed second ≡ false = steps_lack decimals decimal_lacks cut input.steps writable.steps in
    let lack : list_any has_line_feed (first ∷ second ∷ rest) ≡ false = or_from _ _ first_lacks (or_from _ _ second_lacks (words_lack words_back word_lacks input.words writable.words)) in
    from_lines (text_of input) first second rest input (lines_back (first ∷ second ∷ rest) lack)
    (harts_read decimals decimal_lacks cut input.harts limits.some_hart limits.harts)
    (steps_read decimals decimal_lacks cut input.steps limits.steps writable.steps)
    (words_read words_back word_lacks 3 input.words (omega (arith, limits.words)) writable.words)
