-- The one file that is written for an image.
use Rattle.std.specs.Prelude.{ℕ, ◌+◌, ◌-◌, ◌*◌, ◌/◌, cond, codes, List, [], ◌∷◌, ◌++◌, length, replicate}
use Rattle.std.specs.List.{flat_map, sum_by}
use Rattle.byteorder.specs.Endian.{little_bytes}
use Rattle.rv_memory.specs.Extent.{Extent}
use Rattle.rv_elf.specs.declared.layout.FileHeader.{FileHeader}
use Rattle.rv_elf.specs.declared.layout.ProgramHeader.{ProgramHeader}
use Rattle.rv_elf.specs.declared.layout.SectionHeader.{SectionHeader}
use Rattle.rv_elf.specs.declared.layout.SymbolEntry.{SymbolEntry}
use Rattle.rv_elf.specs.declared.places.Places.{Places}
use Rattle.rv_elf.specs.declared.writing.Sections.{Sections}
use Rattle.rv_elf.specs.Contents.{Named, Contents}

-- ---- the records as bytes, their fields in the order of `Layout`

abbrev pub words : List ℕ → List ℕ
words = flat_map (little_bytes 4)

abbrev pub halves : List ℕ → List ℕ
halves = flat_map (little_bytes 2)

-- the ABI's version and padding are zero
unfoldable pub file_header_bytes : FileHeader → List ℕ
file_header_bytes h =
    words (h.ei_mag ∷ []) ++ (h.ei_class ∷ h.ei_data ∷ h.ei_version ∷ replicate 9 0) ++ halves (h.e_type ∷ h.e_machine ∷ [])
    ++ words (h.e_version ∷ h.e_entry ∷ h.e_phoff ∷ h.e_shoff ∷ h.e_flags ∷ [])
    ++ halves (h.e_ehsize ∷ h.e_phentsize ∷ h.e_phnum ∷ h.e_shentsize ∷ h.e_shnum ∷ h.e_shstrndx ∷ [])

unfoldable pub program_header_bytes : ProgramHeader → List ℕ
program_header_bytes h =
    words (h.p_type ∷ h.p_offset ∷ h.p_vaddr ∷ h.p_paddr ∷ h.p_filesz ∷ h.p_memsz ∷ h.p_flags ∷ h.p_align ∷ [])

unfoldable pub section_header_bytes : SectionHeader → List ℕ
section_header_bytes h =
    words (h.sh_name ∷ h.sh_type ∷ h.sh_flags ∷ h.sh_addr ∷ h.sh_offset ∷ h.sh_size ∷ h.sh_link ∷ h.sh_info ∷ h.sh_addralign ∷ h.sh_entsize ∷ [])

unfoldable pub symbol_entry_bytes : SymbolEntry → List ℕ
symbol_entry_bytes s =
    words (s.st_name ∷ s.st_value ∷ s.st_size ∷ []) ++ (s.st_info ∷ s.st_other ∷ []) ++ halves (s.st_shndx ∷ [])

-- ---- the header and the segments

-- what the header of a file without sections says of them
abbrev pub no_sections : Sections
no_sections = record { offset = 0; count = 0; names = 0 }

abbrev pub header_for : ℕ → ℕ → Sections → FileHeader
header_for entry segments sections = record {
  ei_mag = 0x464c_457f;
  ei_class = 1;
  ei_data = 1;
  ei_version = 1;
  e_type = 2;
  e_machine = 243;
  e_version = 1;
  e_entry = entry;
  e_phoff = 52;
  e_shoff = sections.offset;
  e_flags = 0;
  e_ehsize = 52;
  e_phentsize = 32;
  e_phnum = segments;
  e_shentsize = 40;
  e_shnum = sections.count;
  e_shstrndx = sections.names;
}

-- PF_R is 4, PF_W is 2, PF_X is 1
abbrev pub flags_of : Extent → ℕ
flags_of s = cond s.r 4 0 + cond s.w 2 0 + cond s.x 1 0

-- a PT_LOAD header for a segment whose bytes lie at `offset`
abbrev pub header_at : ℕ → Extent → ProgramHeader
header_at offset s = record {
  p_type = 1;
  p_offset = offset;
  p_vaddr = s.start;
  p_paddr = s.start;
  p_filesz = length s.bytes;
  p_memsz = s.len;
  p_flags = flags_of s;
  p_align = 1;
}

-- the bytes of the segments lie one directly after another
abbrev pub headers_from : ℕ → List Extent → List ProgramHeader
headers_from offset [] = []
headers_from offset (s ∷ ss) = header_at offset s ∷ headers_from (offset + length s.bytes) ss

-- where the bytes of the first segment lie
abbrev pub data_start : List Extent → ℕ
data_start segments = 52 + 32 * length segments

-- everything but the symbols
unfoldable pub front : ℕ → List Extent → Sections → List ℕ
front entry segments sections =
    file_header_bytes (header_for entry (length segments) sections)
    ++ flat_map program_header_bytes (headers_from (data_start segments) segments)
    ++ flat_map (λ s. s.bytes) segments

-- ---- the symbols

-- STB_GLOBAL in the high bits, and the absolute section
abbrev pub entry_at : ℕ → Named → SymbolEntry
entry_at name s = record {
  st_name = name;
  st_value = s.value;
  st_size = s.size;
  st_info = 16 + s.kind;
  st_other = 0;
  st_shndx = 0xfff1;
}

abbrev pub null_entry : SymbolEntry
null_entry = record { st_name = 0; st_value = 0; st_size = 0; st_info = 0; st_other = 0; st_shndx = 0 }

-- the names lie one after another, each with a zero byte at its end
abbrev pub entries_from : ℕ → List Named → List SymbolEntry
entries_from name [] = []
entries_from name (s ∷ ss) = entry_at name s ∷ entries_from (name + (length s.name + 1)) ss

unfoldable pub symbol_bytes : List Named → List ℕ
symbol_bytes symbols = flat_map symbol_entry_bytes (null_entry ∷ entries_from 1 symbols)

abbrev pub terminated : List ℕ → List ℕ
terminated text = text ++ 0 ∷ []

unfoldable pub string_table : List Named → List ℕ
string_table symbols = 0 ∷ flat_map (λ s. terminated s.name) symbols

-- the names of the sections, from 1, 9 and 17 on
unfoldable pub section_names : List ℕ
section_names = 0 ∷ terminated (codes ".symtab") ++ terminated (codes ".strtab") ++ terminated (codes ".shstrtab")

-- the next multiple of 4, and the zeros up to it
abbrev pub aligned : ℕ → ℕ
aligned n = (n + 3) / 4 * 4

abbrev pub padding : ℕ → List ℕ
padding n = replicate (aligned n - n) 0

-- where the segments' bytes end
abbrev pub data_end : List Extent → ℕ
data_end segments = data_start segments + sum_by (λ s. length s.bytes) segments

abbrev pub strings_len : List Named → ℕ
strings_len symbols = 1 + sum_by (λ s. length s.name + 1) symbols

-- where the symbol table, its strings, the sections' names and the section headers lie
unfoldable pub places_of : List Extent → List Named → Places
places_of segments symbols =
    let table = aligned (data_end segments) in
    let strings = table + 16 * (1 + length symbols) in
    let names = strings + strings_len symbols in
    record { symbols = table; strings = strings; names = names; sections = aligned (names + 27) }

abbrev pub null_section : SectionHeader
null_section = record { sh_name = 0; sh_type = 0; sh_flags = 0; sh_addr = 0; sh_offset = 0; sh_size = 0; sh_link = 0; sh_info = 0; sh_addralign = 0; sh_entsize = 0 }

-- SHT_SYMTAB, linked to the third section, its entries from 1 on not local
abbrev pub symbol_section : Places → SectionHeader
symbol_section places = record null_section { sh_name = 1; sh_type = 2; sh_offset = places.symbols; sh_size = places.strings - places.symbols; sh_link = 2; sh_info = 1; sh_addralign = 4; sh_entsize = 16 }

-- SHT_STRTAB
abbrev pub string_section : ℕ → ℕ → ℕ → SectionHeader
string_section name offset size = record null_section { sh_name = name; sh_type = 3; sh_offset = offset; sh_size = size; sh_addralign = 1 }

abbrev pub sections_of : Places → List SectionHeader
sections_of places = null_section ∷ symbol_section places ∷ string_section 9 places.strings (places.names - places.strings) ∷ string_section 17 places.names 27 ∷ []

-- the tables behind the segments' bytes
unfoldable pub tables : ℕ → List Named → Places → List ℕ
tables end symbols places =
    padding end ++ symbol_bytes symbols ++ string_table symbols ++ section_names ++ padding (places.names + 27) ++ flat_map section_header_bytes (sections_of places)

-- ---- the file

-- the whole of a file with symbols
abbrev pub written_with : ℕ → List Extent → List Named → Places → List ℕ
written_with entry segments symbols places =
    front entry segments (record { offset = places.sections; count = 4; names = 3 }) ++ tables (data_end segments) symbols places

-- an image without symbols has no sections
abbrev pub written_parts : ℕ → List Extent → List Named → List ℕ
written_parts entry segments [] = front entry segments no_sections
written_parts entry segments (s ∷ ss) = written_with entry segments (s ∷ ss) (places_of segments (s ∷ ss))

unfoldable pub written : Contents → List ℕ
written image = written_parts image.entry image.segments image.symbols
