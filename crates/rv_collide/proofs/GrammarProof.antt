-- The texts that are read are those of the grammar.
use Rattle.std.proofs.Common.{◌≡◌, Result, Ok, refl, ap, ◌∙◌, sym}
use Rattle.rv_text.specs.Decimal.{DecimalIsReadBack, DecimalHasOneSpelling, DecimalLacksSeparators}
use Rattle.rv_text.specs.Hexadecimal.{WordIsReadBack, WordLacksSeparators}
use Rattle.rv_text.specs.Pieces.{PiecesAreCut}
use Rattle.rv_collide.specs.Grammar.{Grammar}
use Rattle.rv_collide.specs.GrammarLaws.{ReadsTheGrammar, TextHasOneSchedule, ScheduleHasOneText, ScheduleHasText}
use Rattle.rv_collide.specs.Numbers.{numbers}
use Rattle.rv_collide.specs.ScheduleRead.{schedule_of}
use Rattle.rv_collide.proofs.ReadsBack.{schedule_back}
use Rattle.rv_collide.proofs.SpellLemmas.{schedule_read}

pub reads_the_grammar : DecimalIsReadBack → DecimalLacksSeparators → DecimalHasOneSpelling → WordIsReadBack → WordLacksSeparators → PiecesAreCut → ReadsTheGrammar
reads_the_grammar decimals decimal_lacks one words word_lacks cut text plan entries = (back, forth)
  where
    back : schedule_of text ≡ Ok (record { numbers = numbers plan; entries = entries }) → Grammar text plan entries
    back is =
        let said = schedule_back one text (record { numbers = numbers plan; entries = entries }) plan.in_range is in
        (said.0, record { writable = said.1.writable; addresses = said.1.addresses; spelled = said.1.spelled })

    forth : Grammar text plan entries → schedule_of text ≡ Ok (record { numbers = numbers plan; entries = entries })
    forth (format, g) = ap schedule_of g.spelled ∙ schedule_read decimals decimal_lacks words word_lacks cut format (numbers plan) entries plan.in_range g.writable g.addresses

same_ok : {A E : Type 0} (r : Result A E) (a b : A) → r ≡ Ok a → r ≡ Ok b → a ≡ b
same_ok r a b here there = cc

pub text_has_one : ReadsTheGrammar → TextHasOneSchedule
text_has_one reads text plan other entries others here there =
    let same = same_ok (schedule_of text) (record { numbers = numbers plan; entries = entries }) (record { numbers = numbers other; entries = others })
    ((reads text plan entries).1 here) ((reads text other others).1 there) in
    (ap (λ s. s.numbers) same, ap (λ s. s.entries) same)

pub schedule_has_one : ScheduleHasOneText
schedule_has_one format text other plan entries here there = here.spelled ∙ sym there.spelled

pub schedule_has_some : ScheduleHasText
schedule_has_some format plan entries writable addresses = record { writable = writable; addresses = addresses; spelled = refl }
