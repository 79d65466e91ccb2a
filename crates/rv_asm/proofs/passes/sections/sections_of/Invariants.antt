-- no line so far has a fault, and the bytes of the sections are those so far and those of the lines left
use Rattle.std.proofs.Common.{◌≡◌, ◌++◌, length}
use Rattle.rv_asm.specs.Layout.{lines_placed}
use Rattle.rv_asm.specs.Assembled.{first_fault, section_bytes}
use Rattle.rv_asm.specs.declared.statement.Section.TheVariants.{Text, Data}
use Rattle.rv_asm.proofs.passes.sections.sections_of.Given as goal

abbrev pub invariant-loop-p : goal.invariant-loop-p
invariant-loop-p l = record {
  fault : first_fault l.labels l.lines ≡ first_fault l.labels (lines_placed l.source);
  text : l.sections.text.items ++ section_bytes Text l.labels l.lines ≡ section_bytes Text l.labels (lines_placed l.source);
  writable : l.sections.writable.items ++ section_bytes Data l.labels l.lines ≡ section_bytes Data l.labels (lines_placed l.source);
}

abbrev pub decreases-loop-p : goal.decreases-loop-p
decreases-loop-p l = length l.lines
