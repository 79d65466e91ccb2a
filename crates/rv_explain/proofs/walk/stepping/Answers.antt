use Rattle.std.proofs.Common.{ap, sym, ◌∙◌}
use Rattle.std.specs.Prelude.{option_and_then}
use Rattle.std.proofs.lemmas.Option.{slice_get-get_or}
use Rattle.rv_collide.specs.Entries.{stepped_at, stepped_hart}
use Rattle.rv_collide.specs.declared.entry.Entry.TheVariants.{Stepped}
use Rattle.rv_explain.proofs.walk.stepping.Goals as goal

pub returns : goal.returns
unfolding stepped_at
returns c =
    (rw (c.entries.ensures, c.place.ensures.value) at c.stepped.ensures)
    ∙ sym (ap (λ o. option_and_then stepped_hart o) (slice_get-get_or c.args.session.now.entries c.args.session.now.place (Stepped 0) c.requires))
