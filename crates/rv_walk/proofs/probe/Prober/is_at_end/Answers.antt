use Rattle.std.proofs.Common.{Option, length, sym, subst}
use Rattle.std.specs.Prelude.{IfSome}
use Rattle.rv_walk.specs.Probe.{MayEnd}
use Rattle.rv_walk.specs.declared.probe.Held.{Held}
use Rattle.rv_walk.specs.internal.Probing.{IsHeld, MayLetGo, Probing}
use Rattle.rv_walk.proofs.ProbeLemmas.{resumes_held}
use Rattle.rv_walk.proofs.ProbingLemmas.{ended}
use Rattle.rv_walk.proofs.probe.Prober.is_at_end.Goals as goal

pub unreachable-requires : goal.unreachable-requires
unreachable-requires g c =
    let held : IsHeld c.self.inside.detector c.in-Some.held = subst (λ (o : Option Held). IfSome o (IsHeld c.self.inside.detector)) c.in-Some.is c.self.invariant.held_is in
    resumes_held c.self.inside.detector c.in-Some.held c.in-Err.field-0 held c.in-Err.ensures.err

pub invariant_of-self : goal.invariant_of-self
invariant_of-self g c =
    let p : Probing = record { aim = record { addresses = c.self.inside.addresses; sites = c.self.inside.sites.now }; core = c.self.inside.detector; held = c.self.inside.held } in
    let lets_go : MayLetGo p = subst MayLetGo (sym c.self.view_is) c.requires in
    let may : MayEnd p.core (length p.core.entries) c.in-Some.held.hart = subst (λ (o : Option Held). IfSome o (λ it. MayEnd p.core (length p.core.entries) it.hart)) c.in-Some.is lets_go in
    ended p c.self.inside.watch c.resume.new.self c.in-Some.held.hart c.self.invariant may c.in-Ok.ensures.ok.adds
