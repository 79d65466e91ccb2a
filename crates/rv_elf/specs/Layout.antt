-- The four records of an ELF32 file (System V ABI, "Object Files"): each field by its name there, where
-- in its record it lies, and how many bytes it has, the least significant first.
use Rattle.std.specs.Prelude.{ℕ, zero, suc, ◌+◌, List, [], ◌∷◌, take, drop, length, Option, Some, None, ◌==◌, nat_le, if◌then◌else◌}
use Rattle.byteorder.specs.Endian.{little_number}
use Rattle.rv_elf.specs.declared.layout.FileHeader.{FileHeader}
use Rattle.rv_elf.specs.declared.layout.ProgramHeader.{ProgramHeader}
use Rattle.rv_elf.specs.declared.layout.SectionHeader.{SectionHeader}
use Rattle.rv_elf.specs.declared.layout.SymbolEntry.{SymbolEntry}

-- the number in the `width` bytes from `offset` on
abbrev pub field : ℕ → ℕ → List ℕ → ℕ
field offset width bytes = little_number width (drop offset bytes)

-- 52 bytes; those from 7 to 15 are the ABI, its version and padding
unfoldable pub file_header : List ℕ → FileHeader
file_header bytes = record {
  ei_mag = field 0 4 bytes;
  ei_class = field 4 1 bytes;
  ei_data = field 5 1 bytes;
  ei_version = field 6 1 bytes;
  e_type = field 16 2 bytes;
  e_machine = field 18 2 bytes;
  e_version = field 20 4 bytes;
  e_entry = field 24 4 bytes;
  e_phoff = field 28 4 bytes;
  e_shoff = field 32 4 bytes;
  e_flags = field 36 4 bytes;
  e_ehsize = field 40 2 bytes;
  e_phentsize = field 42 2 bytes;
  e_phnum = field 44 2 bytes;
  e_shentsize = field 46 2 bytes;
  e_shnum = field 48 2 bytes;
  e_shstrndx = field 50 2 bytes;
}

-- 32 bytes
unfoldable pub program_header : List ℕ → ProgramHeader
program_header bytes = record {
  p_type = field 0 4 bytes;
  p_offset = field 4 4 bytes;
  p_vaddr = field 8 4 bytes;
  p_paddr = field 12 4 bytes;
  p_filesz = field 16 4 bytes;
  p_memsz = field 20 4 bytes;
  p_flags = field 24 4 bytes;
  p_align = field 28 4 bytes;
}

-- 40 bytes
unfoldable pub section_header : List ℕ → SectionHeader
section_header bytes = record {
  sh_name = field 0 4 bytes;
  sh_type = field 4 4 bytes;
  sh_flags = field 8 4 bytes;
  sh_addr = field 12 4 bytes;
  sh_offset = field 16 4 bytes;
  sh_size = field 20 4 bytes;
  sh_link = field 24 4 bytes;
  sh_info = field 28 4 bytes;
  sh_addralign = field 32 4 bytes;
  sh_entsize = field 36 4 bytes;
}

-- 16 bytes
unfoldable pub symbol_entry : List ℕ → SymbolEntry
symbol_entry bytes = record {
  st_name = field 0 4 bytes;
  st_value = field 4 4 bytes;
  st_size = field 8 4 bytes;
  st_info = field 12 1 bytes;
  st_other = field 13 1 bytes;
  st_shndx = field 14 2 bytes;
}

-- the `size` bytes from `offset` on, where they lie within the file; no bytes lie anywhere
unfoldable pub part : ℕ → ℕ → List ℕ → Option (List ℕ)
part offset size bytes =
    if size == 0 then Some [] else (if nat_le (offset + size) (length bytes) then Some (take size (drop offset bytes)) else None)

-- the records of a table: `count` of them, `size` bytes each, one directly after another
abbrev pub records : {A : Type 0} → (List ℕ → A) → ℕ → ℕ → List ℕ → List A
records one size zero table = []
records one size (suc count) table = one table ∷ records one size count (drop size table)
