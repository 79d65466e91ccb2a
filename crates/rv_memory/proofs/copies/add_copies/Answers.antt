use Rattle.std.proofs.Common.{◌≡◌, ◌++◌, ◌∙◌, ap, arith, replicate}
use Rattle.std.proofs.lemmas.Bool.Decides.{nat_tests}
use Rattle.rv_memory.specs.declared.copies.TheConstants.{AT_ONCE}
use Rattle.rv_memory.proofs.CopyLemmas.{block_more, rest_more}
use Rattle.rv_memory.proofs.copies.add_copies.Goals as goal

pub loop-preserved : goal.loop-preserved
loop-preserved g c = c.in_ok-extend_from_slice.ensures.items ∙ block_more _ _ _ c.loop.counter AT_ONCE c.args.value c.loop.invariant c.requires

pub returns-clause-items : goal.returns-clause-items
returns-clause-items g c =
    c.in_ok-extend_from_slice-2.ensures.items
    ∙ rest_more _ _ _ c.loop.counter AT_ONCE c.args.count c.args.value c.loop.invariant (grind (arith, nat_tests)) c.requires (grind (arith, nat_tests))
    ∙ ap (λ xs. xs ++ replicate c.args.count c.args.value) c.in_ok-reserve.ensures.items
