use Rattle.std.proofs.Common.{Ok, ap, sym, ◌∙◌}
use Rattle.rv_asm.proofs.BytesLemmas.{jump-ok, jump-err, jump-unknown}
use Rattle.rv_asm.proofs.passes.bytes.jump.Goals as goal

pub returns-in-Err : goal.returns-in-Err
returns-in-Err c = sym (jump-unknown c.args.labels.now c.args.address c.args.op c.args.rd c.args.rs1 c.args.rs2 c.args.target.now c.in-Err.kind (sym c.in-Err.ensures))

pub returns-in_ok-instr_bytes-in-Ok-aimed : goal.returns-in_ok-instr_bytes-in-Ok-aimed
returns-in_ok-instr_bytes-in-Ok-aimed c =
    ap (λ bytes. Ok bytes) (c.in_ok-instr_bytes-in-Ok-aimed.ensures {u = tt})
    ∙ sym (jump-ok c.args.labels.now c.args.address c.args.op c.args.rd c.args.rs1 c.args.rs2 c.args.target.now c.in-Ok.to c.in-Ok-aimed.instr (sym c.in-Ok.ensures) (sym c.in-Ok-aimed.ensures))

pub returns-in-Err-aimed : goal.returns-in-Err-aimed
returns-in-Err-aimed c = sym (jump-err c.args.labels.now c.args.address c.args.op c.args.rd c.args.rs1 c.args.rs2 c.args.target.now c.in-Ok.to c.in-Err-aimed.kind (sym c.in-Ok.ensures) (sym c.in-Err-aimed.ensures))
