-- the lines so far, and those of the texts that are left, are those of the file
use Rattle.std.proofs.Common.{◌≡◌, ◌+◌, ◌≤◌, None, length, map}
use Rattle.rv_text.specs.Lines.{lines_of}
use Rattle.rv_lines.specs.SourceLines.{lines_from}
use Rattle.rv_lines.specs.internal.Kept.{AreAscending, line_of}
use Rattle.rv_lines.proofs.KeptLemmas.{IsReached}
use Rattle.rv_lines.proofs.ReadLemmas.{fronted}
use Rattle.rv_lines.proofs.lines.read_lines.Given as goal

abbrev pub invariant-loop-text : goal.invariant-loop-text
invariant-loop-text l =
    (l.number + length l.texts ≤ length l.fn.text + 1)
    × (lines_from 1 None (lines_of l.fn.text) ≡ fronted (map line_of l.lines.items) (lines_from l.number l.before l.texts))
    × AreAscending l.lines.items × IsReached l.before l.lines.items

abbrev pub decreases-loop-text : goal.decreases-loop-text
decreases-loop-text l = length l.texts
