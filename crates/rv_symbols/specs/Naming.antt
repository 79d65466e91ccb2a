-- What tells addresses to people.
use Rattle.std.specs.Prelude.{List, []}
use Rattle.rv_elf.specs.Contents.{Contents}
use Rattle.rv_lines.specs.SourceLines.{SourceLine}

-- an image, by its symbols, and the lines of its sources, where they are known
pub record Naming : Type 0 where
  pub image : Contents
  pub lines : List SourceLine

-- the symbols alone
abbrev pub by_symbols : Contents → Naming
by_symbols image = record { image = image; lines = [] }
