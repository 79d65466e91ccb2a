use Rattle.std.proofs.Common.{◌∙◌, sym, ap}
use Rattle.rv_hart.specs.Step.{action_at_word}
use Rattle.rv_hart.proofs.AbleLemmas.{fetched_word}
use Rattle.rv_hart.proofs.effect.fetched.Goals as goal

pub returns-in-Some-decode : goal.returns-in-Some-decode
returns-in-Some-decode g c =
    let read = sym c.decode.ensures.value ∙ c.in-Some-decode.is in
    c.act.ensures ∙ sym (ap (λ o. action_at_word o c.args.hart.now) read) ∙ fetched_word c.args.hart.now _ _ c.in-Some.word (sym c.load_permitted.ensures.value ∙ c.in-Some.is)
