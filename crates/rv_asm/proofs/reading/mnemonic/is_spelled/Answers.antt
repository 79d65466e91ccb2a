use Rattle.std.proofs.Common.{◌≡◌, ◌++◌, ◌∙◌, Some, None}
use Rattle.std.proofs.lemmas.Bool.Decides.{Decides-eqb}
use Rattle.std.proofs.lemmas.Slice.Eq.{strip_prefix_is}
use Rattle.rv_asm.specs.Mnemonics as spec
use Rattle.rv_asm.proofs.SpellingLemmas.{after_prefix, without_prefix}
use Rattle.rv_asm.proofs.reading.mnemonic.is_spelled.Goals as goal

pub returns-in-Some : goal.returns-in-Some
returns-in-Some c =
    let prefix : c.as_bytes.result.now ≡ spec.mnemonic_of c.args.op = c.as_bytes.ensures.value ∙ c.mnemonic.ensures in
    let suffix : c.as_bytes-in-Some.result.now ≡ spec.ordering_suffix c.args.aq c.args.rl = c.as_bytes-in-Some.ensures.value ∙ c.ordering_suffix.ensures in
    let parts : c.args.text.now ≡ c.as_bytes.result.now ++ c.in-Some.suffix.now = strip_prefix_is Decides-eqb c.args.text.now c.as_bytes.result.now (Some c.in-Some.suffix) c.in-Some.ensures.cases in
    c.eq.ensures ∙ rw (← prefix, ← suffix) (after_prefix c.args.text.now c.as_bytes.result.now c.in-Some.suffix.now c.as_bytes-in-Some.result.now parts)

pub returns-in-None : goal.returns-in-None
returns-in-None c =
    let prefix : c.as_bytes.result.now ≡ spec.mnemonic_of c.args.op = c.as_bytes.ensures.value ∙ c.mnemonic.ensures in
    let none = strip_prefix_is Decides-eqb c.args.text.now c.as_bytes.result.now None c.in-None.ensures.cases in
    rw (← prefix) (without_prefix c.args.text.now c.as_bytes.result.now (spec.ordering_suffix c.args.aq c.args.rl) none)
