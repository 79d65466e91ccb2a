use Rattle.std.proofs.Common.{◌≡◌, ◌<◌, ◌+◌, ◌^◌, length, ap, sym, ◌∙◌, arith}
use Rattle.std.proofs.lemmas.Option.{slice_get-get_or}
use Rattle.rv_walk.specs.Again.{Gone}
use Rattle.rv_walk.proofs.GoingLemmas.{gone_on}
use Rattle.rv_walk.proofs.again.Again.step.Goals as goal

pub overflow_add-self : goal.overflow_add-self
overflow_add-self g c =
    let view : c.self.inside.place ≡ c.args.self.now.place = ap (λ (gone : Gone). gone.place) c.self.view_is in
    let small : c.args.self.now.place + 1 < 2 ^ 32 = c.requires.small in
    record { fits = omega arith }

pub invariant_of-self-2 : goal.invariant_of-self-2
invariant_of-self-2 g c =
    let gone : Gone = record { start = c.self.inside.begin.value.state; harts = c.self.inside.harts.now; place = c.self.inside.place } in
    let view : gone ≡ c.args.self.now = c.self.view_is in
    let same : c.self.inside.place ≡ c.args.self.now.place = ap (λ (it : Gone). it.place) c.self.view_is in
    let list : c.self.inside.harts.now ≡ c.args.self.now.harts = ap (λ (it : Gone). it.harts) c.self.view_is in
    let count : length c.self.inside.harts.now ≡ length c.args.self.now.harts = ap length list in
    let ahead : c.self.inside.place < length c.self.inside.harts.now = omega (arith, c.requires.ahead) in
    gone_on c.what_no_step_does.ensures.output g.S.ByteStore.can_refuse gone c.self.inside.machine c.step.new.self _ c.step.result c.self.invariant ahead (slice_get-get_or c.self.inside.harts.now c.self.inside.place _ ahead) (sym c.is_err.ensures.value ∙ c.if-is_err.false) c.step.ensures
