use Rattle.std.proofs.Common.{◌≤◌, length, arith, ap}
use Rattle.rv_asm.proofs.NameLemmas.{is_name-length}
use Rattle.rv_asm.proofs.passes.layout.label_size.Goals as goal

pub overflow_cast-result : goal.overflow_cast-result
overflow_cast-result c =
    let few : length c.in-Some.name ≤ 255 = (is_name-length c.in-Some.name c.as_bytes.ensures.valid).1 in
    omega (arith, ap length c.as_bytes.ensures.value)

pub overflow_add-result : goal.overflow_add-result
overflow_add-result c =
    let few : length c.in-Some.name ≤ 255 = (is_name-length c.in-Some.name c.as_bytes.ensures.valid).1 in
    omega (arith, ap length c.as_bytes.ensures.value)
