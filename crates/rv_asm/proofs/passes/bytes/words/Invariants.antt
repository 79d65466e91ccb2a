-- the bytes so far, and those of the values that are left
use Rattle.std.proofs.Common.{◌≡◌, length}
use Rattle.rv_asm.specs.Bytes.{values_bytes, word_bytes}
use Rattle.rv_asm.proofs.BytesLemmas.{onto}
use Rattle.rv_asm.proofs.passes.bytes.words.Given as goal

abbrev pub invariant-loop-value : goal.invariant-loop-value
invariant-loop-value l = onto l.bytes.items (values_bytes word_bytes l.labels l.values) ≡ values_bytes word_bytes l.labels l.initial.values

abbrev pub decreases-loop-value : goal.decreases-loop-value
decreases-loop-value l = length l.values
