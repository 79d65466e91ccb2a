use Rattle.std.proofs.Common.{ℕ, List, ◌+◌, ap, sym, ◌∙◌, subst, drop, length, arith}
use Rattle.std.specs.Str.{IsUtf8, IsValidUpTo, valid_up_to}
use Rattle.std.proofs.lemmas.List.{drop-drop, length-drop}
use Rattle.rv_elf.proofs.Starts.{no_place}
use Rattle.rv_elf.proofs.Texts.{from_utf8}
use Rattle.rv_elf.proofs.names.utf8_from.Goals as goal

pub loop-fault-preserved : goal.loop-fault-preserved
loop-fault-preserved c =
    let h = c.loop-fault.invariant in
    let met = c.in-Err.ensures.cases in
    let short = met.1.short in
    let passed = c.valid_up_to-passed.ensures in
    let valid = valid_up_to c.in-Err.fault in
    let len = ap length h.rest ∙ length-drop c.loop-fault.from c.args.bytes.now in
    let within = h.within in
    let up = subst (λ (t : List ℕ). IsValidUpTo t valid) h.rest met.1 in
    record {
      within = omega (arith, short, passed, len, within);
      rest = c.split_at.ensures.back ∙ ap (drop (c.valid_up_to-passed.result + 1)) h.rest ∙ drop-drop (c.valid_up_to-passed.result + 1) c.loop-fault.from c.args.bytes.now;
      least = λ place lt. no_place c.args.bytes.now c.loop-fault.from valid place (λ u. met.0 (subst (λ (t : List ℕ). IsUtf8 t) (sym h.rest) u)) up h.least (omega (arith, passed, lt));
    }

pub returns : goal.returns
returns c =
    let h = c.loop-fault.invariant in
    record { within = h.within; rest = from_utf8 (drop c.loop-fault.from c.args.bytes.now) (subst (λ (t : List ℕ). IsUtf8 t) h.rest c.in_default.ensures.cases.1); least = h.least }
