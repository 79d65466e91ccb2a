use Rattle.std.proofs.Common.{◌+◌, ◌++◌, ◌∷◌, [], drop, refl, ap, ◌∙◌}
use Rattle.rv_elf.specs.internal.Steps.{starts_in}
use Rattle.rv_elf.proofs.Starts.{more_starts}
use Rattle.rv_elf.proofs.names.push_starts.Goals as goal

pub loop-place-preserved : goal.loop-place-preserved
loop-place-preserved c =
    let pushed = (c.in_ok-push.ensures {u = tt}).items in
    let starts = c.loop-place.starts.items in
    ap (λ xs. xs ++ starts_in (drop (c.loop-place.place + 1) c.args.text.now)) (pushed ∙ ap (λ b. starts ++ b ∷ []) c.is_start.ensures)
    ∙ more_starts starts c.args.text.now c.utf8_from-from.result c.loop-place.place _ c.utf8_from-from.ensures c.loop-place-test.true refl
    ∙ c.loop-place.invariant
