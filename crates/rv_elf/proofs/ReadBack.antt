-- Records that are read where they were written.
use Rattle.std.proofs.Common.{◌≡◌, ℕ, ◌+◌, ◌*◌, ◌^◌, ◌<◌, true, eqb, leb, List, [], ◌∷◌, ◌++◌, length, Some, refl, ◌∙◌, arith, inl, inr}
use Rattle.std.specs.List.{AllByRecursion, flat_map}
use Rattle.std.proofs.lemmas.Bool.{cases_Bool, eqb-true, le-leb}
use Rattle.std.proofs.lemmas.List.{take_at, drop_at, length-append, nil_from_length}
use Rattle.byteorder.specs.Endian.{little_number, little_bytes}
use Rattle.byteorder.specs.Numbers.{little_number-reads_back}
use Rattle.rv_elf.specs.declared.layout.FileHeader.{FileHeader}
use Rattle.rv_elf.specs.declared.layout.ProgramHeader.{ProgramHeader}
use Rattle.rv_elf.specs.declared.layout.SectionHeader.{SectionHeader}
use Rattle.rv_elf.specs.declared.layout.SymbolEntry.{SymbolEntry}
use Rattle.rv_elf.specs.Layout.{file_header, program_header, section_header, symbol_entry, part, records}
use Rattle.rv_elf.specs.Written.{file_header_bytes, program_header_bytes, section_header_bytes, symbol_entry_bytes}

-- what lies between two other pieces
pub part_at : (a b c : List ℕ) (offset size : ℕ) → length a ≡ offset → length b ≡ size → part offset size (a ++ (b ++ c)) ≡ Some b
unfolding part
part_at a b c offset size at len =
    elim (cases_Bool (eqb size 0)) [
      | inl t ↦ rw (t, nil_from_length b (len ∙ eqb-true size 0 t)) refl
      | inr f ↦ let fits : leb (offset + size) (length (a ++ (b ++ c))) ≡ true = le-leb _ _ (omega (arith, length-append a (b ++ c), length-append b c)) in
          rw (f, fits, drop_at a (b ++ c) offset at, take_at b c size len) refl
    ]

-- the records of a table
pub records_back : {A : Type 0} (one : List ℕ → A) (bytes_of : A → List ℕ) (Fits : A → Type 0) (size : ℕ) (back : (x : A) (rest : List ℕ) → Fits x → one (bytes_of x ++ rest) ≡ x)
    (len : (x : A) → length (bytes_of x) ≡ size) (xs : List A) → AllByRecursion Fits xs → records one size (length xs) (flat_map bytes_of xs) ≡ xs
records_back one bytes_of Fits size back len [] fits = refl
records_back one bytes_of Fits size back len (x ∷ xs) fits =
    rw (back x (flat_map bytes_of xs) fits.0, drop_at (bytes_of x) (flat_map bytes_of xs) size (len x), records_back one bytes_of Fits size back len xs fits.1) refl

word_back : (x : ℕ) → x < 2 ^ 32 → little_number 4 (little_bytes 4 x) ≡ x
word_back x h = little_number-reads_back 4 x [] h

half_back : (x : ℕ) → x < 2 ^ 16 → little_number 2 (little_bytes 2 x) ≡ x
half_back x h = little_number-reads_back 2 x [] h

byte_back : (x : ℕ) → x + 256 * 0 ≡ x
byte_back x = omega arith

-- ---- program headers

pub record ProgramHeaderFits (h : ProgramHeader) : Type 0 where
  pub type : h.p_type < 2 ^ 32
  pub offset : h.p_offset < 2 ^ 32
  pub vaddr : h.p_vaddr < 2 ^ 32
  pub paddr : h.p_paddr < 2 ^ 32
  pub filesz : h.p_filesz < 2 ^ 32
  pub memsz : h.p_memsz < 2 ^ 32
  pub flags : h.p_flags < 2 ^ 32
  pub align : h.p_align < 2 ^ 32

same_program_header : (a b c d e f g k : ℕ) (h : ProgramHeader) → a ≡ h.p_type → b ≡ h.p_offset → c ≡ h.p_vaddr → d ≡ h.p_paddr → e ≡ h.p_filesz → f ≡ h.p_memsz → g ≡ h.p_flags → k ≡ h.p_align
    → record { p_type = a; p_offset = b; p_vaddr = c; p_paddr = d; p_filesz = e; p_memsz = f; p_flags = g; p_align = k } ≡ h
same_program_header a b c d e f g k h p0 p1 p2 p3 p4 p5 p6 p7 = rw (p0, p1, p2, p3, p4, p5, p6, p7) refl

pub program_header_back : (h : ProgramHeader) (rest : List ℕ) → ProgramHeaderFits h → program_header (program_header_bytes h ++ rest) ≡ h
unfolding program_header program_header_bytes
program_header_back h rest fits =
    same_program_header _ _ _ _ _ _ _ _ h (word_back h.p_type fits.type) (word_back h.p_offset fits.offset) (word_back h.p_vaddr fits.vaddr) (word_back h.p_paddr fits.paddr) (word_back h.p_filesz fits.filesz) (word_back h.p_memsz fits.memsz) (word_back h.p_flags fits.flags) (word_back h.p_align fits.align)

pub program_header_len : (h : ProgramHeader) → length (program_header_bytes h) ≡ 32
unfolding program_header_bytes
program_header_len h = refl

-- ---- section headers

pub record SectionHeaderFits (h : SectionHeader) : Type 0 where
  pub name : h.sh_name < 2 ^ 32
  pub type : h.sh_type < 2 ^ 32
  pub flags : h.sh_flags < 2 ^ 32
  pub addr : h.sh_addr < 2 ^ 32
  pub offset : h.sh_offset < 2 ^ 32
  pub size : h.sh_size < 2 ^ 32
  pub link : h.sh_link < 2 ^ 32
  pub info : h.sh_info < 2 ^ 32
  pub addralign : h.sh_addralign < 2 ^ 32
  pub entsize : h.sh_entsize < 2 ^ 32

same_section_header : (v0 v1 v2 v3 v4 v5 v6 v7 v8 v9 : ℕ) (h : SectionHeader) → v0 ≡ h.sh_name → v1 ≡ h.sh_type → v2 ≡ h.sh_flags → v3 ≡ h.sh_addr → v4 ≡ h.sh_offset → v5 ≡ h.sh_size → v6 ≡ h.sh_link → v7 ≡ h.sh_info → v8 ≡ h.sh_addralign → v9 ≡ h.sh_entsize
    → record { sh_name = v0; sh_type = v1; sh_flags = v2; sh_addr = v3; sh_offset = v4; sh_size = v5; sh_link = v6; sh_info = v7; sh_addralign = v8; sh_entsize = v9 } ≡ h
same_section_header v0 v1 v2 v3 v4 v5 v6 v7 v8 v9 h e0 e1 e2 e3 e4 e5 e6 e7 e8 e9 = rw (e0, e1, e2, e3, e4, e5, e6, e7, e8, e9) refl

pub section_header_back : (h : SectionHeader) (rest : List ℕ) → SectionHeaderFits h → section_header (section_header_bytes h ++ rest) ≡ h
unfolding section_header section_header_bytes
section_header_back h rest fits =
    same_section_header _ _ _ _ _ _ _ _ _ _ h (word_back h.sh_name fits.name) (word_back h.sh_type fits.type) (word_back h.sh_flags fits.flags) (word_back h.sh_addr fits.addr) (word_back h.sh_offset fits.offset) (word_back h.sh_size fits.size) (word_back h.sh_link fits.link) (word_back h.sh_info fits.info) (word_back h.sh_addralign fits.addralign) (word_back h.sh_entsize fits.entsize)

pub section_header_len : (h : SectionHeader) → length (section_header_bytes h) ≡ 40
unfolding section_header_bytes
section_header_len h = refl

-- ---- symbol entrys

pub record SymbolEntryFits (h : SymbolEntry) : Type 0 where
  pub name : h.st_name < 2 ^ 32
  pub value : h.st_value < 2 ^ 32
  pub size : h.st_size < 2 ^ 32
  pub shndx : h.st_shndx < 2 ^ 16

same_symbol_entry : (v0 v1 v2 v3 v4 v5 : ℕ) (h : SymbolEntry) → v0 ≡ h.st_name → v1 ≡ h.st_value → v2 ≡ h.st_size → v3 ≡ h.st_info → v4 ≡ h.st_other → v5 ≡ h.st_shndx
    → record { st_name = v0; st_value = v1; st_size = v2; st_info = v3; st_other = v4; st_shndx = v5 } ≡ h
same_symbol_entry v0 v1 v2 v3 v4 v5 h e0 e1 e2 e3 e4 e5 = rw (e0, e1, e2, e3, e4, e5) refl

pub symbol_entry_back : (h : SymbolEntry) (rest : List ℕ) → SymbolEntryFits h → symbol_entry (symbol_entry_bytes h ++ rest) ≡ h
unfolding symbol_entry symbol_entry_bytes
symbol_entry_back h rest fits =
    same_symbol_entry _ _ _ _ _ _ h (word_back h.st_name fits.name) (word_back h.st_value fits.value) (word_back h.st_size fits.size) (byte_back h.st_info) (byte_back h.st_other) (half_back h.st_shndx fits.shndx)

pub symbol_entry_len : (h : SymbolEntry) → length (symbol_entry_bytes h) ≡ 16
unfolding symbol_entry_bytes
symbol_entry_len h = refl

-- ---- file headers

pub record FileHeaderFits (h : FileHeader) : Type 0 where
  pub ei_mag : h.ei_mag < 2 ^ 32
  pub type : h.e_type < 2 ^ 16
  pub machine : h.e_machine < 2 ^ 16
  pub version : h.e_version < 2 ^ 32
  pub entry : h.e_entry < 2 ^ 32
  pub phoff : h.e_phoff < 2 ^ 32
  pub shoff : h.e_shoff < 2 ^ 32
  pub flags : h.e_flags < 2 ^ 32
  pub ehsize : h.e_ehsize < 2 ^ 16
  pub phentsize : h.e_phentsize < 2 ^ 16
  pub phnum : h.e_phnum < 2 ^ 16
  pub shentsize : h.e_shentsize < 2 ^ 16
  pub shnum : h.e_shnum < 2 ^ 16
  pub shstrndx : h.e_shstrndx < 2 ^ 16

same_file_header : (v0 v1 v2 v3 v4 v5 v6 v7 v8 v9 v10 v11 v12 v13 v14 v15 v16 : ℕ) (h : FileHeader) → v0 ≡ h.ei_mag → v1 ≡ h.ei_class → v2 ≡ h.ei_data → v3 ≡ h.ei_version → v4 ≡ h.e_type → v5 ≡ h.e_machine → v6 ≡ h.e_version → v7 ≡ h.e_entry → v8 ≡ h.e_phoff → v9 ≡ h.e_shoff → v10 ≡ h.e_flags → v11 ≡ h.e_ehsize → v12 ≡ h.e_phentsize → v13 ≡ h.e_phnum → v14 ≡ h.e_shentsize → v15 ≡ h.e_shnum → v16 ≡ h.e_shstrndx
    → record { ei_mag = v0; ei_class = v1; ei_data = v2; ei_version = v3; e_type = v4; e_machine = v5; e_version = v6; e_entry = v7; e_phoff = v8; e_shoff = v9; e_flags = v10; e_ehsize = v11; e_phentsize = v12; e_phnum = v13; e_shentsize = v14; e_shnum = v15; e_shstrndx = v16 } ≡ h
same_file_header v0 v1 v2 v3 v4 v5 v6 v7 v8 v9 v10 v11 v12 v13 v14 v15 v16 h e0 e1 e2 e3 e4 e5 e6 e7 e8 e9 e10 e11 e12 e13 e14 e15 e16 = rw (e0, e1, e2, e3, e4, e5, e6, e7, e8, e9, e10, e11, e12, e13, e14, e15, e16) refl

pub file_header_back : (h : FileHeader) (rest : List ℕ) → FileHeaderFits h → file_header (file_header_bytes h ++ rest) ≡ h
unfolding file_header file_header_bytes
file_header_back h rest fits =
    same_file_header _ _ _ _ _ _ _ _ _ _ _ _ _ _ _ _ _ h (word_back h.ei_mag fits.ei_mag) (byte_back h.ei_class) (byte_back h.ei_data) (byte_back h.ei_version) (half_back h.e_type fits.type) (half_back h.e_machine fits.machine) (word_back h.e_version fits.version) (word_back h.e_entry fits.entry) (word_back h.e_phoff fits.phoff) (word_back h.e_shoff fits.shoff) (word_back h.e_flags fits.flags) (half_back h.e_ehsize fits.ehsize) (half_back h.e_phentsize fits.phentsize) (half_back h.e_phnum fits.phnum) (half_back h.e_shentsize fits.shentsize) (half_back h.e_shnum fits.shnum) (half_back h.e_shstrndx fits.shstrndx)

pub file_header_len : (h : FileHeader) → length (file_header_bytes h) ≡ 52
unfolding file_header_bytes
file_header_len h = refl
