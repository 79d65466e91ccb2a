use Rattle.std.proofs.Common.{◌≡◌, ◌∙◌, ◌+◌, ◌∷◌, [], List, ℕ, Some, None, length, map, option_map, sym, ap, arith}
use Rattle.std.specs.Prelude.{slice_get}
use Rattle.std.proofs.lemmas.List.{map-append}
use Rattle.rv_text.specs.Lines.{lines_of}
use Rattle.rv_lines.specs.SourceLines.{SourceLine, line_in, lines_from, lines_in}
use Rattle.rv_lines.specs.internal.Kept.{line_of}
use Rattle.rv_lines.proofs.KeptLemmas.{ascending_more, reached_more}
use Rattle.rv_lines.proofs.PieceLemmas.{first_and_others, none_left}
use Rattle.rv_lines.proofs.ReadLemmas.{few_lines, fronted, fronted_none, no_more, no_order, no_shape, step}
use Rattle.rv_lines.proofs.lines.read_lines.Goals as goal

pub loop-text-init : goal.loop-text-init
loop-text-init c =
    let few = few_lines c.args.text.now in (
      rw c.of-texts.ensures (omega arith),
      rw (c.of-texts.ensures, c.new-lines.ensures.items) (fronted_none (lines_from 1 None (lines_of c.args.text.now))),
      rw c.new-lines.ensures.items (λ i j d le lt. omega arith),
      rw c.new-lines.ensures.items (λ d some. absurd (omega arith)),
    )

pub returns-in_default-2-clause-err : goal.returns-in_default-2-clause-err
unfolding lines_in
returns-in_default-2-clause-err c =
    let front = map line_of c.loop-text.lines.items in
    let first : Some c.in-Some.text.now ≡ slice_get c.loop-text.texts 0 = cc in
    let texts = first_and_others c.loop-text.texts c.next_line.new.self c.in-Some.text.now first c.in-Some.ensures.rest in
    let none : None ≡ line_in c.in-Some.text.now = sym (ap (option_map line_of) c.in_default-2.is) ∙ c.in_ok-line.ensures in
    rw c.refusal.ensures
    (c.loop-text.invariant.1 ∙ ap (λ (ts : List (List ℕ)). fronted front (lines_from c.loop-text.number c.loop-text.before ts)) texts
    ∙ no_shape c.loop-text.number c.loop-text.before front c.in-Some.text.now c.next_line.new.self none)

pub returns-then-not-may_follow-clause-err : goal.returns-then-not-may_follow-clause-err
unfolding lines_in
returns-then-not-may_follow-clause-err c =
    let front = map line_of c.loop-text.lines.items in
    let first : Some c.in-Some.text.now ≡ slice_get c.loop-text.texts 0 = cc in
    let texts = first_and_others c.loop-text.texts c.next_line.new.self c.in-Some.text.now first c.in-Some.ensures.rest in
    let some : Some (line_of c.in-Some-2.line) ≡ line_in c.in-Some.text.now = sym (ap (option_map line_of) c.in-Some-2.is) ∙ c.in_ok-line.ensures in
    rw c.refusal-then-not-may_follow.ensures
    (c.loop-text.invariant.1 ∙ ap (λ (ts : List (List ℕ)). fronted front (lines_from c.loop-text.number c.loop-text.before ts)) texts
    ∙ no_order c.loop-text.number c.loop-text.before front (line_of c.in-Some-2.line) c.in-Some.text.now c.next_line.new.self some
    (sym c.may_follow.ensures ∙ c.if-not-may_follow.true))

pub loop-text-preserved : goal.loop-text-preserved
loop-text-preserved c =
    let lines = c.loop-text.lines.items in
    let line = c.in-Some-2.line in
    let front = map line_of lines in
    let first : Some c.in-Some.text.now ≡ slice_get c.loop-text.texts 0 = cc in
    let texts = first_and_others c.loop-text.texts c.next_line.new.self c.in-Some.text.now first c.in-Some.ensures.rest in
    let count = ap length texts in
    let some : Some (line_of line) ≡ line_in c.in-Some.text.now = sym (ap (option_map line_of) c.in-Some-2.is) ∙ c.in_ok-line.ensures in
    let follows = sym c.may_follow.ensures ∙ c.if-not-may_follow.false in (
      omega (arith, c.loop-text.invariant.0),
      c.loop-text.invariant.1 ∙ ap (λ (ts : List (List ℕ)). fronted front (lines_from c.loop-text.number c.loop-text.before ts)) texts
          ∙ step c.loop-text.number c.loop-text.before front (line_of line) c.in-Some.text.now c.next_line.new.self some follows
          ∙ ap (λ (ls : List SourceLine). fronted ls (lines_from (c.loop-text.number + 1) (Some line.address) c.next_line.new.self))
          (sym (map-append line_of lines (line ∷ [])) ∙ ap (map line_of) (sym c.in_ok-add.ensures)),
      rw c.in_ok-add.ensures (ascending_more c.loop-text.before lines line c.loop-text.invariant.2 c.loop-text.invariant.3 follows),
      rw c.in_ok-add.ensures (reached_more lines line),
    )

pub returns-clause-ok : goal.returns-clause-ok
unfolding lines_in
returns-clause-ok c =
    let front = map line_of c.loop-text.lines.items in
    let none : None ≡ slice_get c.loop-text.texts 0 = cc in
    c.loop-text.invariant.1 ∙ ap (λ (ts : List (List ℕ)). fronted front (lines_from c.loop-text.number c.loop-text.before ts)) (none_left c.loop-text.texts none)
    ∙ no_more c.loop-text.number c.loop-text.before front
