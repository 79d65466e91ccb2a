use Rattle.std.proofs.Common.{◌≡◌, ◌∙◌, List, ℕ, Some, false, ap, sym}
use Rattle.std.specs.Prelude.{◌==◌, codes, drop, length}
use Rattle.std.specs.Option.{option_copied}
use Rattle.rv_collide.specs.ScheduleRead.{words_of}
use Rattle.rv_tables.specs.Origin as spec
use Rattle.rv_tables.specs.OriginRead as read
use Rattle.rv_tables.proofs.OriginLemmas.{origin_read}
use Rattle.rv_tables.proofs.origin_line.read_line.Goals as goal

pub returns : goal.returns
returns c =
    let image : spec.word_after (codes "of") (words_of c.args.line.now) ≡ Some c.in-Some.image.now = ap (λ (ws : List (List ℕ)). spec.word_after (codes "of") ws) (sym c.of-words.ensures) ∙ sym c.in-Some.ensures.value in
    let second : c.word_after.new.words ≡ drop 2 (words_of c.args.line.now) = c.in-Some.ensures.rest ∙ ap (λ (ws : List (List ℕ)). drop 2 ws) c.of-words.ensures in
    let found = rw c.in-Some-2.is at c.in_ok-stretches.ensures in
    let some : (length c.in-Some-2.stretches.items == 0) ≡ false = cc in
    rw (c.in_ok-of.ensures, c.deref.ensures.value, c.in_ok-given.ensures)
    (origin_read (words_of c.args.line.now) c.word_after.new.words c.word_after-2.new.words c.number_after.new.words (read.onto (option_copied c.in-Some-2.next) c.read_stretches.new.words)
    c.in-Some.image.now c.in-Some-word_after.version.now c.in-Some-number_after.seed c.in-Some-2.stretches.items
    image second (sym c.in-Some-word_after.ensures.value) c.in-Some-word_after.ensures.rest (sym c.in-Some-number_after.ensures.value) c.in-Some-number_after.ensures.rest
    (sym found) some)
