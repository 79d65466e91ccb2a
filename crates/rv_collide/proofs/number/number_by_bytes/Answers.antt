use Rattle.rv_collide.proofs.Bytes.{load_one, load_two, load_four, size_four}
use Rattle.rv_collide.proofs.number.number_by_bytes.Goals as goal

pub returns-then-size-eq1 : goal.returns-then-size-eq1
returns-then-size-eq1 g c = load_one c.args.machine.now.state.memory c.args.first c.args.size c.byte_at-one.result c.if-size-eq1.true c.byte_at-one.ensures.value

pub returns-then-size-eq2 : goal.returns-then-size-eq2
returns-then-size-eq2 g c = load_two c.args.machine.now.state.memory c.args.first c.args.size c.byte_at-one.result c.byte_at-two.result c.if-size-eq2.true c.byte_at-one.ensures.value c.byte_at-two.ensures.value

pub returns : goal.returns
returns g c = load_four c.args.machine.now.state.memory c.args.first c.args.size c.byte_at-one.result c.byte_at-two.result c.byte_at-three.result c.byte_at-four.result (size_four c.args.size c.requires c.if-size-eq1.false c.if-size-eq2.false) c.byte_at-one.ensures.value c.byte_at-two.ensures.value c.byte_at-three.ensures.value c.byte_at-four.ensures.value
