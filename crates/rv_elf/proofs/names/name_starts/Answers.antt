use Rattle.std.proofs.Common.{◌++◌, length, drop, add-one, arith, ap, sym, ◌∙◌, append_assoc}
use Rattle.std.proofs.lemmas.List.{append-nil}
use Rattle.rv_elf.specs.internal.Steps.{name_starts, starts_in}
use Rattle.rv_elf.proofs.Starts.{split_at_zero, no_starts}
use Rattle.rv_elf.proofs.names.name_starts.Goals as goal

pub split_at-requires : goal.split_at-requires
split_at-requires c =
    let h = split_at_zero c.loop-text.rest.now c.in-Some.text.now (sym c.in-Some.ensures) in
    let short = h.short in omega (arith, short)

pub loop-text-preserved : goal.loop-text-preserved
loop-text-preserved c =
    let h = split_at_zero c.loop-text.rest.now c.in-Some.text.now (sym c.in-Some.ensures) in
    let pushed = c.in_ok-push_starts.ensures {u = tt} in
    let after = c.split_at.ensures.back ∙ ap (λ n. drop n c.loop-text.rest.now) (add-one (length c.in-Some.text.now)) in
    ap (λ starts. starts ++ name_starts c.split_at.result.1.now) pushed
    ∙ append_assoc c.loop-text.starts.items (starts_in c.in-Some.text.now) (name_starts c.split_at.result.1.now)
    ∙ ap (λ rest. c.loop-text.starts.items ++ (starts_in c.in-Some.text.now ++ name_starts rest)) after
    ∙ ap (λ starts. c.loop-text.starts.items ++ starts) (sym h.starts) ∙ c.loop-text.invariant

pub returns : goal.returns
returns c = sym (ap (λ rest. c.loop-text.starts.items ++ rest) (no_starts c.loop-text.rest.now (sym c.in_default.ensures)) ∙ append-nil c.loop-text.starts.items) ∙ c.loop-text.invariant
