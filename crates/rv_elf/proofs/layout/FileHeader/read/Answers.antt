-- each field is what its read gave
use Rattle.std.proofs.Common.{refl}
use Rattle.rv_elf.specs.Layout.{file_header}
use Rattle.rv_elf.proofs.layout.FileHeader.read.Goals as goal

pub returns : goal.returns
unfolding file_header
returns c =
    rw (c.word.ensures, c.byte.ensures, c.byte-2.ensures, c.byte-3.ensures, c.half.ensures, c.half-2.ensures, c.word-2.ensures, c.word-3.ensures, c.word-4.ensures, c.word-5.ensures, c.word-6.ensures, c.half-3.ensures, c.half-4.ensures, c.half-5.ensures, c.half-6.ensures, c.half-7.ensures, c.half-8.ensures) refl
