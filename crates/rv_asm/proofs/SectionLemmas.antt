-- Faults and bytes of lines that are taken one by one.
use Rattle.std.proofs.Common.{◌≡◌, ℕ, ◌+◌, List, [], ◌∷◌, ◌++◌, Option, Some, None, Ok, Err, refl, ap, sym, ◌∙◌, append_assoc, append-nil}
use Rattle.std.specs.Option.{option_or}
use Rattle.rv_asm.specs.Assembled.{first_fault, section_bytes, line_bytes, fault_at, if_in}
use Rattle.rv_asm.specs.declared.fault.AsmFault.{AsmFault}
use Rattle.rv_asm.specs.declared.passes.place.Label.{Label}
use Rattle.rv_asm.specs.declared.passes.place.PlacedLine.{PlacedLine}
use Rattle.rv_asm.specs.declared.statement.AsmKind.{AsmKind}
use Rattle.rv_asm.specs.declared.statement.Section.{Section}

pub fault-cons : (labels : List Label) (p : PlacedLine) (lines : List PlacedLine) → first_fault labels (p ∷ lines) ≡ option_or (fault_at (p.place.lines_before + 1) (line_bytes labels p)) (first_fault labels lines)
unfolding first_fault
fault-cons labels p lines = refl

pub bytes-cons : (section : Section) (labels : List Label) (p : PlacedLine) (lines : List PlacedLine) → section_bytes section labels (p ∷ lines) ≡ if_in section p.place.section (line_bytes labels p) ++ section_bytes section labels lines
unfolding section_bytes
bytes-cons section labels p lines = refl

-- a line without a fault
pub fault-more : (labels : List Label) (all : Option AsmFault) (p : PlacedLine) (lines rest : List PlacedLine) (bytes : List ℕ) → lines ≡ p ∷ rest → line_bytes labels p ≡ Ok bytes → first_fault labels lines ≡ all → first_fault labels rest ≡ all
fault-more labels all p lines rest bytes is fine so_far =
    sym (ap (first_fault labels) is ∙ fault-cons labels p rest ∙ ap (λ r. option_or (fault_at (p.place.lines_before + 1) r) (first_fault labels rest)) fine) ∙ so_far

-- a line with one
pub fault-here : (labels : List Label) (all : Option AsmFault) (p : PlacedLine) (lines rest : List PlacedLine) (kind : AsmKind) → lines ≡ p ∷ rest → line_bytes labels p ≡ Err kind → first_fault labels lines ≡ all → all ≡ Some (record { line = p.place.lines_before + 1; kind = kind })
fault-here labels all p lines rest kind is fault so_far =
    sym so_far ∙ ap (first_fault labels) is ∙ fault-cons labels p rest ∙ ap (λ r. option_or (fault_at (p.place.lines_before + 1) r) (first_fault labels rest)) fault

pub fault-none : (labels : List Label) (all : Option AsmFault) (lines : List PlacedLine) → lines ≡ [] → first_fault labels lines ≡ all → all ≡ None
unfolding first_fault
fault-none labels all lines is so_far = sym so_far ∙ ap (first_fault labels) is

pub bytes-more : (section : Section) (labels : List Label) (done after all : List ℕ) (p : PlacedLine) (lines rest : List PlacedLine) (bytes : List ℕ) → lines ≡ p ∷ rest → line_bytes labels p ≡ Ok bytes → after ≡ done ++ if_in section p.place.section (Ok bytes) → done ++ section_bytes section labels lines ≡ all → after ++ section_bytes section labels rest ≡ all
bytes-more section labels done after all p lines rest bytes is fine added so_far =
    ap (λ xs. xs ++ section_bytes section labels rest) added
    ∙ append_assoc done (if_in section p.place.section (Ok bytes)) (section_bytes section labels rest)
    ∙ ap (λ r. done ++ (if_in section p.place.section r ++ section_bytes section labels rest)) (sym fine)
    ∙ ap (λ xs. done ++ xs) (sym (ap (section_bytes section labels) is ∙ bytes-cons section labels p rest))
    ∙ so_far

pub bytes-done : (section : Section) (labels : List Label) (done all : List ℕ) (lines : List PlacedLine) → lines ≡ [] → done ++ section_bytes section labels lines ≡ all → done ≡ all
unfolding section_bytes
bytes-done section labels done all lines is so_far =
    sym (append-nil done) ∙ ap (λ ls. done ++ section_bytes section labels ls) (sym is) ∙ so_far
