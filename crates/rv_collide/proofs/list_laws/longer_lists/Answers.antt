use Rattle.std.proofs.Common.{[], ◌++◌, ap, ◌∙◌, length, zero-add}
use Rattle.rv_collide.specs.Pause.{opened, openings, openings_from}
use Rattle.rv_collide.proofs.Openings.{openings_push, openings_resume}
use Rattle.rv_collide.proofs.list_laws.longer_lists.Goals as goal

pub returns-clause-stay : goal.returns-clause-stay
unfolding openings
returns-clause-stay c = λ entries entry none.
    openings_push 0 entries entry none ∙ ap (λ place. openings_from 0 entries ++ opened place entry []) (zero-add (length entries))

pub returns-clause-ends : goal.returns-clause-ends
unfolding openings
returns-clause-ends c = λ entries hart. openings_resume 0 hart entries
