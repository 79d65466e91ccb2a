-- The image that an ELF32 file describes, or the first test that the file fails.
use Rattle.std.specs.Prelude.{ℕ, ◌+◌, ◌*◌, ◌/◌, ◌%◌, ◌^◌, Bool, not, ◌&&◌, ◌||◌, ◌==◌, nat_le, if◌then◌else◌, bit_and, List, [], ◌∷◌, map, length, take, drop, slice_get, Option, Some, None, is_some, Result, Ok, Err}
use Rattle.std.specs.List.{filter, find, filter_map, list_any, list_all, sum_by}
use Rattle.std.specs.Option.{ok_or, option_map}
use Rattle.std.specs.Str.{is_utf8}
use Rattle.rv_memory.specs.Chain.{◌>>=◌, want}
use Rattle.rv_memory.specs.Extent.{Extent}
use Rattle.rv_memory.specs.Memory.{overlaps, permits}
use Rattle.rv_memory.specs.declared.store.Need.TheVariants.{Execute}
use Rattle.rv_elf.specs.declared.fault.LoadFault.{LoadFault}
use Rattle.rv_elf.specs.declared.fault.LoadFault.TheVariants.{Truncated, NotElf, NotElf32Little, NotExecutable, NotRiscV, NotStatic, HeaderSize, TooManySegments, FileLongerThanMemory, PastEnd, Overlap, TooLarge, BadEntry, BadSymbols, NoMemory}
use Rattle.rv_elf.specs.declared.layout.FileHeader.{FileHeader}
use Rattle.rv_elf.specs.declared.layout.ProgramHeader.{ProgramHeader}
use Rattle.rv_elf.specs.declared.layout.SectionHeader.{SectionHeader}
use Rattle.rv_elf.specs.declared.layout.SymbolEntry.{SymbolEntry}
use Rattle.rv_elf.specs.Layout.{file_header, program_header, section_header, symbol_entry, part, records}
use Rattle.rv_elf.specs.Contents.{Named, Contents, contents, stacks, need_of}

-- ---- the header

-- ELFCLASS32, ELFDATA2LSB and EV_CURRENT, in both places
abbrev pub is_elf32_little : FileHeader → Bool
is_elf32_little h = h.ei_class == 1 && h.ei_data == 1 && h.ei_version == 1 && h.e_version == 1

-- the header and the entries of the tables that the file has are of the sizes that version 1 gives them
abbrev pub has_known_sizes : FileHeader → Bool
has_known_sizes h =
    h.e_ehsize == 52 && (h.e_phnum == 0 || h.e_phentsize == 32) && (h.e_shoff == 0 || h.e_shnum == 0 || h.e_shentsize == 40)

-- the first four bytes are 7f 45 4c 46, ET_EXEC is 2, EM_RISCV is 243
unfoldable pub header_test : FileHeader → Result (Unit {0}) LoadFault
header_test h = do
  _ ← want (h.ei_mag == 0x464c_457f) NotElf
  _ ← want (is_elf32_little h) NotElf32Little
  _ ← want (h.e_type == 2) NotExecutable
  _ ← want (h.e_machine == 243) NotRiscV
  want (has_known_sizes h) HeaderSize

unfoldable pub header_of : List ℕ → Result FileHeader LoadFault
header_of bytes = do
  _ ← want (nat_le 52 (length bytes)) Truncated
  _ ← header_test (file_header bytes)
  Ok (file_header bytes)

-- ---- the segments

-- PT_DYNAMIC and PT_INTERP: the file is not static
abbrev pub is_dynamic : ProgramHeader → Bool
is_dynamic h = h.p_type == 2 || h.p_type == 3

-- PT_LOAD with a byte of memory
abbrev pub is_loaded : ProgramHeader → Bool
is_loaded h = h.p_type == 1 && not (h.p_memsz == 0)

-- the program headers of the segments
unfoldable pub loaded_headers : FileHeader → List ℕ → Result (List ProgramHeader) LoadFault
loaded_headers h bytes = do
  _ ← want (nat_le h.e_phnum 64) TooManySegments
  table ← ok_or (part h.e_phoff (32 * h.e_phnum) bytes) Truncated
  let headers = records program_header 32 h.e_phnum table
  _ ← want (not (list_any is_dynamic headers)) NotStatic
  Ok (filter is_loaded headers)

-- what is wanted of one segment
unfoldable pub segment_test : List ℕ → ProgramHeader → Result (Unit {0}) LoadFault
segment_test bytes h = do
  _ ← want (nat_le h.p_filesz h.p_memsz) FileLongerThanMemory
  _ ← want (is_some (part h.p_offset h.p_filesz bytes)) Truncated
  want (nat_le (h.p_vaddr + h.p_memsz) (2 ^ 32)) PastEnd

unfoldable pub each_segment_test : List ℕ → List ProgramHeader → Result (Unit {0}) LoadFault
each_segment_test bytes [] = Ok tt
each_segment_test bytes (h ∷ hs) = do
  _ ← segment_test bytes h
  each_segment_test bytes hs

-- PF_X is 1, PF_W is 2, PF_R is 4
abbrev pub has_flag : ℕ → ProgramHeader → Bool
has_flag flag h = not (bit_and h.p_flags flag == 0)

-- the segment of a program header: `p_filesz` bytes of the file, then zeros, `p_memsz` bytes in all
abbrev pub segment : List ℕ → ProgramHeader → Extent
segment bytes h = record {
  start = h.p_vaddr;
  bytes = take h.p_filesz (drop h.p_offset bytes);
  len = h.p_memsz;
  r = has_flag 4 h;
  w = has_flag 2 h;
  x = has_flag 1 h;
}

-- what is wanted of the segments together
unfoldable pub segments_test : ℕ → List Extent → Result (Unit {0}) LoadFault
segments_test entry segments = do
  _ ← want (not (overlaps (stacks ∷ segments))) Overlap
  _ ← want (nat_le (sum_by (λ s. s.len) segments) 16_777_216) TooLarge
  want (entry % 4 == 0 && permits segments entry 4 Execute) BadEntry

-- ---- the symbols

-- a symbol table and its string table, as bytes
pub record SymbolTable : Type 0 where
  pub symbols : List ℕ
  pub strings : List ℕ

abbrev pub no_table : SymbolTable
no_table = record { symbols = []; strings = [] }

-- SHT_SYMTAB: its entries have 16 bytes, and it is linked to a section of type SHT_STRTAB
unfoldable pub linked_table : SectionHeader → List SectionHeader → List ℕ → Result SymbolTable LoadFault
linked_table table sections bytes = do
  _ ← want (table.sh_entsize == 16 && table.sh_size % 16 == 0) BadSymbols
  symbols ← ok_or (part table.sh_offset table.sh_size bytes) BadSymbols
  names ← ok_or (slice_get sections table.sh_link) BadSymbols
  _ ← want (names.sh_type == 3) BadSymbols
  strings ← ok_or (part names.sh_offset names.sh_size bytes) BadSymbols
  Ok (record { symbols = symbols; strings = strings })

abbrev pub table_among : List SectionHeader → List ℕ → Option SectionHeader → Result SymbolTable LoadFault
table_among sections bytes None = Ok no_table
table_among sections bytes (Some table) = linked_table table sections bytes

-- the first symbol table among the sections; a file without sections has none
unfoldable pub symbol_table : FileHeader → List ℕ → Result SymbolTable LoadFault
symbol_table h bytes =
    if h.e_shoff == 0 || h.e_shnum == 0 then Ok no_table else (ok_or (part h.e_shoff (40 * h.e_shnum) bytes) BadSymbols >>= λ table.
    let sections = records section_header 40 h.e_shnum table in table_among sections bytes (find (λ s. s.sh_type == 2) sections))

-- STT_NOTYPE, STT_OBJECT or STT_FUNC, in a section, with a name
abbrev pub is_candidate : SymbolEntry → Bool
is_candidate s = nat_le (s.st_info % 16) 2 && not (s.st_shndx == 0) && not (s.st_name == 0)

-- the bytes before the first zero byte, if there is one
abbrev pub text : List ℕ → Option (List ℕ)
text [] = None
text (b ∷ bytes) = if b == 0 then Some [] else option_map (λ rest. b ∷ rest) (text bytes)

-- an entry's name in the string table; none past the table's end, or where no zero byte follows
abbrev pub name_of : List ℕ → SymbolEntry → Option (List ℕ)
name_of strings s = text (drop s.st_name strings)

abbrev pub symbol : SymbolEntry → List ℕ → Named
symbol s name = record { name = name; value = s.st_value; size = s.st_size; kind = s.st_info % 16 }

-- a name that is UTF-8 and not empty makes a symbol
abbrev pub symbol_named : SymbolEntry → Option (List ℕ) → Option Named
symbol_named s None = None
symbol_named s (Some name) = if is_utf8 name && nat_le 1 (length name) then Some (symbol s name) else None

abbrev pub kept : List ℕ → SymbolEntry → Option Named
kept strings s = if is_candidate s then symbol_named s (name_of strings s) else None

-- the entries of a symbol table
unfoldable pub entries_of : List ℕ → List SymbolEntry
entries_of symbols = records symbol_entry 16 (length symbols / 16) symbols

-- the symbols of the entries, in their order
unfoldable pub symbols_among : List ℕ → List SymbolEntry → List Named
symbols_among strings entries = filter_map (kept strings) entries

-- each candidate's name ends within the string table, and the symbols together need no more than `room`
unfoldable pub entries_test : ℕ → List ℕ → List SymbolEntry → Result (Unit {0}) LoadFault
entries_test room strings entries = do
  _ ← want (list_all (λ s. is_some (name_of strings s)) (filter is_candidate entries)) BadSymbols
  want (nat_le (sum_by need_of (symbols_among strings entries)) room) BadSymbols

-- ---- the image

unfoldable pub loaded : List ℕ → Result Contents LoadFault
loaded bytes = do
  header ← header_of bytes
  headers ← loaded_headers header bytes
  _ ← each_segment_test bytes headers
  let segments = map (segment bytes) headers
  _ ← segments_test header.e_entry segments
  table ← symbol_table header bytes
  let entries = entries_of table.symbols
  _ ← entries_test 67_108_864 table.strings entries
  Ok (contents header.e_entry segments (symbols_among table.strings entries))

-- why no image was made: the test that failed, or else want of memory
abbrev pub refusal : Result Contents LoadFault → LoadFault
refusal (Ok image) = NoMemory
refusal (Err fault) = fault
