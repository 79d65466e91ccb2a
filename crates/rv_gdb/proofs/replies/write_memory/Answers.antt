use Rattle.std.proofs.Common.{◌≡◌, ◌<◌, true, not, sym, ap, ◌∙◌, arith}
use Rattle.std.specs.Prelude.{is_some}
use Rattle.rv_memory.specs.Memory.{byte}
use Rattle.rv_gdb.proofs.TextLemmas.{shown_there}
use Rattle.rv_gdb.proofs.replies.write_memory.Goals as goal

pub returns-clause-ok : goal.returns-clause-ok
returns-clause-ok g c =
    let m = c.args.machine.now.state.memory in
    let some : 0 < c.args.range.length = omega arith in
    let there : is_some (byte m c.args.range.from) ≡ true = ap (λ k. is_some (byte m k)) (sym c.from.ensures) ∙ sym (ap is_some c.byte_at.ensures) ∙ c.is_none.ensures ∙ ap not c.if-is_none.false in
    shown_there m c.args.range.from c.args.range.length _ _ there some c.in_ok-write_bytes.ensures.ok
