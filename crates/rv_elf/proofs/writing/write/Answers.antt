use Rattle.std.proofs.Common.{◌≡◌, Ok, refl, ap, ◌∙◌}
use Rattle.std.proofs.lemmas.Result.{IfOk-weaker}
use Rattle.rv_elf.specs.Loaded.{loaded}
use Rattle.rv_elf.specs.Written.{written_parts}
use Rattle.rv_elf.proofs.LoadsAgain.{parts_back}
use Rattle.rv_elf.proofs.writing.write.Goals as goal

pub returns-clause-loads_again : goal.returns-clause-loads_again
returns-clause-loads_again c =
    let image = c.args.image.now in
    let is = c.entry.ensures.valid in
    let parts : written_parts c.entry.result c.segments.result.now c.symbols.result.now ≡ written_parts image.entry image.segments image.symbols = rw (c.entry.ensures.value, c.segments.ensures.value, c.symbols.ensures.value) refl in
    let again = parts_back image.entry image.segments image.symbols is.segments is.symbols in
    IfOk-weaker c.write_parts.result (λ bytes. bytes.items ≡ written_parts c.entry.result c.segments.result.now c.symbols.result.now) (λ bytes. loaded bytes.items ≡ Ok image) (λ bytes e. ap loaded (e ∙ parts) ∙ again) c.write_parts.ensures
