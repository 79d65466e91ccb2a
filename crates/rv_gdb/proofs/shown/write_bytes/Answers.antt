use Rattle.std.proofs.Common.{◌≡◌, ◌+◌, ◌<◌, Some, ap, sym, subst, ◌∙◌, arith}
use Rattle.std.proofs.lemmas.Bool.Decides.{nat_tests}
use Rattle.std.specs.Io.KnownBytes.{Appends}
use Rattle.rv_gdb.specs.Shown.{bytes_text}
use Rattle.rv_gdb.proofs.TextLemmas.{after_piece, bytes_end, bytes_first, ends}
use Rattle.rv_memory.specs.Memory.{byte}
use Rattle.rv_text.specs.Hexadecimal.{byte_digits}
use Rattle.rv_gdb.proofs.shown.write_bytes.Goals as goal

pub loop-i-preserved : goal.loop-i-preserved
loop-i-preserved g c =
    let m = c.args.machine.now.state.memory in
    let from = c.args.range.from in
    let i = c.loop-i.i in
    let lt : i < c.args.range.length = omega arith in
    let there : from + i ≡ c.from.result + c.from-in-loop-i.result = omega (arith, c.from.ensures, c.from-in-loop-i.ensures) in
    let here : byte m (from + i) ≡ Some c.in-Some.byte = ap (byte m) there ∙ sym c.in-Some.ensures in
    record {
      left = after_piece (bytes_text m from c.args.range.length) _ (byte_digits c.in-Some.byte) _ _ _ _ c.loop-i.invariant.left (bytes_first m from c.args.range.length i c.in-Some.byte lt here) (subst (Appends _ _) c.byte_digits.ensures c.in_ok-put-in-Some.ensures.ok);
      failed = grind (arith, nat_tests);
    }

pub returns-clause-ok : goal.returns-clause-ok
returns-clause-ok g c =
    ends (bytes_text c.args.machine.now.state.memory c.args.range.from c.args.range.length) _ _ _ c.loop-i.invariant.left (bytes_end c.args.machine.now.state.memory c.args.range.from c.args.range.length c.loop-i.i (omega arith))
