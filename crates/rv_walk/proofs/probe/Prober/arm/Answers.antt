use Rattle.std.proofs.Common.{sym, subst}
use Rattle.rv_walk.specs.Probe.{IsAimedAt}
use Rattle.rv_walk.specs.internal.Probing.{Probing}
use Rattle.rv_walk.proofs.ProbingLemmas.{armed_or_not}
use Rattle.rv_walk.proofs.probe.Prober.arm.Goals as goal

pub invariant_of-self : goal.invariant_of-self
invariant_of-self g c =
    let p : Probing = record { aim = record { addresses = c.self.inside.addresses; sites = c.self.inside.sites.now }; core = c.self.inside.detector; held = c.self.inside.held } in
    let aimed : IsAimedAt p.aim c.args.pc = subst (λ (q : Probing). IsAimedAt q.aim c.args.pc) (sym c.self.view_is) c.requires.aim in
    armed_or_not c.longer_lists.ensures.stay c.open_pauses.ensures p c.self.inside.watch c.arm.new.self c.args.pc c.arm.result c.self.invariant aimed c.arm.ensures.ok c.arm.ensures.refused
