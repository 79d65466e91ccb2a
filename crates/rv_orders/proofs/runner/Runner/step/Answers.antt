use Rattle.std.proofs.Common.{◌≡◌, ◌<◌, [], ◌∷◌, ◌++◌, length, sym, subst, refl, arith}
use Rattle.rv_waits.specs.Stuck.{Runs}
use Rattle.rv_orders.proofs.RunnerLemmas.{kept_after, one_more, only_memory, pushed}
use Rattle.rv_orders.specs.internal.Gone.{Gone}
use Rattle.rv_orders.proofs.runner.Runner.step.Goals as goal

pub memory_of-requires : goal.memory_of-requires
memory_of-requires g c =
    let runs : Runs c.self.inside.machine.state c.args.h = subst (λ (v : Gone). Runs v.state c.args.h) (sym c.self.view_is) c.requires.runs in
    let left : length c.self.inside.harts.items < c.self.inside.most = subst (λ (v : Gone). length v.harts < v.most) (sym c.self.view_is) c.requires.left in
    let prints = c.self.invariant.prints in
    let room : length c.self.inside.machine.state.output < c.self.inside.machine.limit = omega arith in
    only_memory _ c.self.inside.machine c.step.new.machine c.args.h c.in-Err.fault c.in-Err.ensures.step runs room

pub invariant_of-self-2 : goal.invariant_of-self-2
invariant_of-self-2 g c =
    let own : Gone = record { start = c.self.inside.begin.value.state; harts = c.self.inside.harts.items; state = c.self.inside.machine.state; most = c.self.inside.most } in
    let left : length c.self.inside.harts.items < c.self.inside.most = subst (λ (v : Gone). length v.harts < v.most) (sym c.self.view_is) c.requires.left in
    let longer : c.push_reserved.new.self.items ≡ c.self.inside.harts.items ++ c.args.h ∷ [] = pushed c.self.inside.harts.items c.reserve.new.self.items c.push_reserved.new.self.items c.args.h c.reserve.ensures.items c.push_reserved.ensures.items in
    kept_after c.what_no_step_does.ensures.output own c.self.inside.machine c.step.new.machine c.self.inside.watch c.step.new.self c.push_reserved.new.self.items c.args.h c.in-Ok.event refl c.self.invariant left c.in-Ok.ensures.step.step c.in-Ok.ensures.step.limit c.in-Ok.ensures.watch longer

pub returns : goal.returns
returns g c =
    let own : Gone = record { start = c.self.inside.begin.value.state; harts = c.self.inside.harts.items; state = c.self.inside.machine.state; most = c.self.inside.most } in
    let longer : c.push_reserved.new.self.items ≡ c.self.inside.harts.items ++ c.args.h ∷ [] = pushed c.self.inside.harts.items c.reserve.new.self.items c.push_reserved.new.self.items c.args.h c.reserve.ensures.items c.push_reserved.ensures.items in
    one_more c.note.result c.what_no_step_does.ensures.other_harts own c.args.self.now c.push_reserved.new.self.items c.step.new.machine.state c.args.h c.in-Ok.event c.self.view_is longer c.in-Ok.ensures.step.step
