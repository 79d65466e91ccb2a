-- The steps of loading a file.
use Rattle.std.proofs.Common.{◌≤◌, All, arith, length, ◌≡◌, ◌+◌, ◌&&◌, ℕ, Bool, List, [], ◌∷◌, map, Result, Ok, Err, refl, sym, ap, ◌∙◌}
use Rattle.std.specs.Prelude.{IsTrue}
use Rattle.std.proofs.lemmas.List.{length-map}
use Rattle.std.specs.List.{list_any, sum_by}
use Rattle.std.proofs.lemmas.List.Sums.{sum_by-cons}
use Rattle.rv_memory.specs.Extent.{Extent}
use Rattle.rv_memory.specs.Memory.{meets, overlaps, holds, allows}
use Rattle.rv_memory.specs.declared.store.Need.TheVariants.{Execute}
use Rattle.rv_elf.specs.declared.fault.LoadFault.{LoadFault}
use Rattle.rv_elf.specs.declared.layout.FileHeader.{FileHeader}
use Rattle.rv_elf.specs.declared.layout.ProgramHeader.{ProgramHeader}
use Rattle.rv_elf.specs.declared.layout.SymbolEntry.{SymbolEntry}
use Rattle.rv_elf.specs.Contents.{Contents, Named, contents, stacks, IsImage, IsSymbol}
use Rattle.rv_memory.specs.Chain.{◌>>=◌}
use Rattle.rv_elf.specs.Loaded.{SymbolTable, is_loaded, header_of, loaded_headers, each_segment_test, segment, segments_test, symbol_table, entries_of, entries_test, symbols_among, loaded, refusal}
use Rattle.rv_elf.proofs.Facts.{apart_from_test, segments_are, small_from_test}

-- The bytes of segments make no difference to how they lie.
any_same : (p : Extent → Bool) (bytes : List ℕ) (hs : List ProgramHeader) → ((h : ProgramHeader) → p (segment bytes h) ≡ p (segment [] h))
    → list_any p (map (segment bytes) hs) ≡ list_any p (map (segment []) hs)
any_same p bytes [] same = refl
any_same p bytes (h ∷ hs) same = rw (same h, any_same p bytes hs same) refl

overlaps_same : (bytes : List ℕ) (hs : List ProgramHeader) → overlaps (map (segment bytes) hs) ≡ overlaps (map (segment []) hs)
overlaps_same bytes [] = refl
overlaps_same bytes (h ∷ hs) = rw (any_same (meets (segment bytes h)) bytes hs (λ _. refl), overlaps_same bytes hs) refl

sum_same : (bytes : List ℕ) (hs : List ProgramHeader) → sum_by (λ s. s.len) (map (segment bytes) hs) ≡ sum_by (λ s. s.len) (map (segment []) hs)
sum_same bytes [] = refl
sum_same bytes (h ∷ hs) =
    sum_by-cons (λ (s : Extent). s.len) (segment bytes h) (map (segment bytes) hs)
    ∙ ap (λ n. h.p_memsz + n) (sum_same bytes hs)
    ∙ sym (sum_by-cons (λ (s : Extent). s.len) (segment [] h) (map (segment []) hs))

pub segments_same : (entry : ℕ) (bytes : List ℕ) (hs : List ProgramHeader) → segments_test entry (map (segment bytes) hs) ≡ segments_test entry (map (segment []) hs)
unfolding segments_test
segments_same entry bytes hs =
    rw (any_same (meets stacks) bytes hs (λ _. refl), overlaps_same bytes hs, sum_same bytes hs, any_same (λ e. holds e entry 4 && allows e Execute) bytes hs (λ _. refl)) refl

abbrev image_of : List ℕ → FileHeader → List ProgramHeader → SymbolTable → Contents
image_of bytes h hs t = contents h.e_entry (map (segment bytes) hs) (symbols_among t.strings (entries_of t.symbols))

abbrev after_table : List ℕ → FileHeader → List ProgramHeader → SymbolTable → Result Contents LoadFault
after_table bytes h hs t = entries_test 67_108_864 t.strings (entries_of t.symbols) >>= λ _. Ok (image_of bytes h hs t)

abbrev after_segments : List ℕ → FileHeader → List ProgramHeader → Result Contents LoadFault
after_segments bytes h hs = symbol_table h bytes >>= after_table bytes h hs

-- the steps up to the segments one by one
pub record IsRead (bytes : List ℕ) (h : FileHeader) (hs : List ProgramHeader) : Type 0 where
  pub header : Ok h ≡ header_of bytes
  pub headers : Ok hs ≡ loaded_headers h bytes
  pub each : Ok tt ≡ each_segment_test bytes hs

loaded_from : (bytes : List ℕ) (h : FileHeader) (hs : List ProgramHeader) → IsRead bytes h hs
    → loaded bytes ≡ (segments_test h.e_entry (map (segment []) hs) >>= λ _. after_segments bytes h hs)
unfolding loaded
loaded_from bytes h hs r = rw (← r.header, ← r.headers, ← r.each, segments_same h.e_entry bytes hs) refl

-- up to the segments together
loaded_then : (bytes : List ℕ) (h : FileHeader) (hs : List ProgramHeader) → IsRead bytes h hs → Ok tt ≡ segments_test h.e_entry (map (segment []) hs)
    → loaded bytes ≡ after_segments bytes h hs
loaded_then bytes h hs r e = loaded_from bytes h hs r ∙ ap (λ s. s >>= λ _. after_segments bytes h hs) (sym e)

-- up to the symbol table
loaded_table : (bytes : List ℕ) (h : FileHeader) (hs : List ProgramHeader) (t : SymbolTable) → IsRead bytes h hs → Ok tt ≡ segments_test h.e_entry (map (segment []) hs)
    → Ok t ≡ symbol_table h bytes → loaded bytes ≡ after_table bytes h hs t
loaded_table bytes h hs t r e table = loaded_then bytes h hs r e ∙ ap (λ s. s >>= after_table bytes h hs) (sym table)

-- where each step fails
pub fails_segments : (bytes : List ℕ) (h : FileHeader) (hs : List ProgramHeader) (fault : LoadFault) → IsRead bytes h hs
    → Err fault ≡ segments_test h.e_entry (map (segment []) hs) → fault ≡ refusal (loaded bytes)
fails_segments bytes h hs fault r e = sym (ap refusal (loaded_from bytes h hs r ∙ ap (λ s. s >>= λ _. after_segments bytes h hs) (sym e)))

pub fails_table : (bytes : List ℕ) (h : FileHeader) (hs : List ProgramHeader) (fault : LoadFault) → IsRead bytes h hs → Ok tt ≡ segments_test h.e_entry (map (segment []) hs)
    → Err fault ≡ symbol_table h bytes → fault ≡ refusal (loaded bytes)
fails_table bytes h hs fault r e table = sym (ap refusal (loaded_then bytes h hs r e ∙ ap (λ s. s >>= after_table bytes h hs) (sym table)))

pub fails_entries : (bytes : List ℕ) (h : FileHeader) (hs : List ProgramHeader) (t : SymbolTable) (fault : LoadFault) → IsRead bytes h hs → Ok tt ≡ segments_test h.e_entry (map (segment []) hs)
    → Ok t ≡ symbol_table h bytes → Err fault ≡ entries_test 67_108_864 t.strings (entries_of t.symbols) → fault ≡ refusal (loaded bytes)
fails_entries bytes h hs t fault r e table test =
    sym (ap refusal (loaded_table bytes h hs t r e table ∙ ap (λ s. s >>= λ _. Ok (image_of bytes h hs t)) (sym test)))

-- where none does
pub passes : (bytes : List ℕ) (h : FileHeader) (hs : List ProgramHeader) (t : SymbolTable) → IsRead bytes h hs → Ok tt ≡ segments_test h.e_entry (map (segment []) hs)
    → Ok t ≡ symbol_table h bytes → Ok tt ≡ entries_test 67_108_864 t.strings (entries_of t.symbols) → loaded bytes ≡ Ok (contents h.e_entry (map (segment bytes) hs) (symbols_among t.strings (entries_of t.symbols)))
passes bytes h hs t r e table test = loaded_table bytes h hs t r e table ∙ ap (λ s. s >>= λ _. Ok (image_of bytes h hs t)) (sym test)

-- what passed makes an image
pub image_is : (bytes : List ℕ) (h : FileHeader) (hs : List ProgramHeader) (strings : List ℕ) (entries : List SymbolEntry) (found : List Named) → Ok tt ≡ each_segment_test bytes hs
    → Ok tt ≡ segments_test h.e_entry (map (segment []) hs) → length hs ≤ 64 → All (λ p. IsTrue (is_loaded p)) hs
    → Ok tt ≡ entries_test 67_108_864 strings entries → found ≡ symbols_among strings entries → All IsSymbol found
    → IsImage (contents h.e_entry (map (segment bytes) hs) found)
image_is bytes h hs strings entries found each together few loaded tested found-is sound =
    let apart = apart_from_test h.e_entry (map (segment bytes) hs) (segments_same h.e_entry bytes hs ∙ sym together) in
    record {
      segments = record {
        few = omega (arith, length-map hs (segment bytes));
        each = segments_are bytes hs loaded (sym each);
        apart = apart.apart;
        small = apart.small;
        aligned = apart.aligned;
        executable = apart.executable;
      };
      symbols = record { each = sound; small = rw found-is (small_from_test 67_108_864 strings entries (sym tested)) };
    }
