use Rattle.std.proofs.Common.{◌≡◌, length, ap, ◌∙◌}
use Rattle.rv_hart.specs.State.{Guest}
use Rattle.rv_walk.specs.Again.{Gone}
use Rattle.rv_walk.proofs.again.Again.fork_at.Goals as goal

pub begin-requires-clause-harts : goal.begin-requires-clause-harts
begin-requires-clause-harts g c =
    let copied : length c.in_ok-machine.machine.state.harts ≡ length c.self.inside.machine.state.harts = ap (λ (guest : Guest). length guest.state.harts) c.in_ok-machine.ensures.equal in
    let begun : length c.self.inside.begin.value.state.harts ≡ length c.args.self.now.start.harts = ap (λ (gone : Gone). length gone.start.harts) (c.self.view_is ∙ c.in_ok-go_to.ensures.walk) in
    copied ∙ c.self.invariant.count ∙ begun ∙ c.requires.harts
