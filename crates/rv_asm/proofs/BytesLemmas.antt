-- The bytes of statements, step by step.
use Rattle.std.proofs.Common.{◌≡◌, ℕ, List, [], ◌∷◌, ◌++◌, Some, None, Result, Ok, Err, refl, ap, sym, ◌∙◌, append_assoc, append-nil}
use Rattle.std.specs.Prelude.{slice_get, drop}
use Rattle.rv_isa.specs.declared.instr.Instr.{Instr}
use Rattle.rv_isa.specs.declared.op.Op.{Op}
use Rattle.rv_memory.specs.Chain.{◌>>=◌}
use Rattle.rv_asm.specs.Instruction.{fields, instruction, distance}
use Rattle.rv_asm.specs.Bytes.{value_of, values_bytes, jump_bytes, instr_bytes}
use Rattle.rv_asm.specs.declared.passes.place.Label.{Label}
use Rattle.rv_asm.specs.declared.statement.AsmKind.{AsmKind}
use Rattle.rv_asm.specs.declared.statement.Expression.{Expression}

pub jump-ok : (labels : List Label) (address : ℕ) (op : Op) (rd rs1 rs2 : ℕ) (target : Expression) (to : ℕ) (instr : Instr) → value_of labels target ≡ Ok to → instruction op (fields rd rs1 rs2 (distance address to)) ≡ Ok instr → jump_bytes labels address op rd rs1 rs2 target ≡ Ok (instr_bytes instr)
unfolding jump_bytes
jump-ok labels address op rd rs1 rs2 target to instr found fits =
    ap (λ r. r >>= λ t. instruction op (fields rd rs1 rs2 (distance address t)) >>= λ i. Ok (instr_bytes i)) found
    ∙ ap (λ r. r >>= λ i. Ok (instr_bytes i)) fits

pub jump-err : (labels : List Label) (address : ℕ) (op : Op) (rd rs1 rs2 : ℕ) (target : Expression) (to : ℕ) (kind : AsmKind) → value_of labels target ≡ Ok to → instruction op (fields rd rs1 rs2 (distance address to)) ≡ Err kind → jump_bytes labels address op rd rs1 rs2 target ≡ Err kind
unfolding jump_bytes
jump-err labels address op rd rs1 rs2 target to kind found far =
    ap (λ r. r >>= λ t. instruction op (fields rd rs1 rs2 (distance address t)) >>= λ i. Ok (instr_bytes i)) found
    ∙ ap (λ r. r >>= λ i. Ok (instr_bytes i)) far

pub jump-unknown : (labels : List Label) (address : ℕ) (op : Op) (rd rs1 rs2 : ℕ) (target : Expression) (kind : AsmKind) → value_of labels target ≡ Err kind → jump_bytes labels address op rd rs1 rs2 target ≡ Err kind
unfolding jump_bytes
jump-unknown labels address op rd rs1 rs2 target kind unknown =
    ap (λ r. r >>= λ t. instruction op (fields rd rs1 rs2 (distance address t)) >>= λ i. Ok (instr_bytes i)) unknown

-- bytes after those that are there
abbrev pub onto : List ℕ → Result (List ℕ) AsmKind → Result (List ℕ) AsmKind
onto done r = r >>= λ rest. Ok (done ++ rest)

onto-both : (done first : List ℕ) (r : Result (List ℕ) AsmKind) → onto done (onto first r) ≡ onto (done ++ first) r
onto-both done first (Ok rest) = ap (λ bytes. Ok bytes) (sym (append_assoc done first rest))
onto-both done first (Err kind) = refl

pub onto-nil : (r : Result (List ℕ) AsmKind) → onto [] r ≡ r
onto-nil (Ok rest) = refl
onto-nil (Err kind) = refl

one_more : (written : ℕ → List ℕ) (labels : List Label) (value : Expression) (values : List Expression) (n : ℕ) → value_of labels value ≡ Ok n → values_bytes written labels (value ∷ values) ≡ onto (written n) (values_bytes written labels values)
unfolding values_bytes
one_more written labels value values n found =
    ap (λ r. r >>= λ m. values_bytes written labels values >>= λ rest. Ok (written m ++ rest)) found

-- one value more
pub values-more : (written : ℕ → List ℕ) (labels : List Label) (done after : List ℕ) (all : Result (List ℕ) AsmKind) (value : Expression) (values rest : List Expression) (n : ℕ) → Some value ≡ slice_get values 0 → rest ≡ drop 1 values → value_of labels value ≡ Ok n → after ≡ done ++ written n → onto done (values_bytes written labels values) ≡ all → onto after (values_bytes written labels rest) ≡ all
values-more written labels done after all value [] rest n first is found added so_far = absurd (cc)
values-more written labels done after all value (v ∷ values) rest n first is found added so_far =
    let same : v ≡ value = cc in
    let here : value_of labels v ≡ Ok n = ap (value_of labels) same ∙ found in
    ap (λ vs. onto after (values_bytes written labels vs)) is
    ∙ ap (λ bytes. onto bytes (values_bytes written labels values)) added
    ∙ sym (onto-both done (written n) (values_bytes written labels values))
    ∙ ap (onto done) (sym (one_more written labels v values n here)) ∙ so_far

-- a value that is no number
pub values-fault : (written : ℕ → List ℕ) (labels : List Label) (done : List ℕ) (all : Result (List ℕ) AsmKind) (value : Expression) (values : List Expression) (kind : AsmKind) → Some value ≡ slice_get values 0 → value_of labels value ≡ Err kind → onto done (values_bytes written labels values) ≡ all → all ≡ Err kind
unfolding values_bytes
values-fault written labels done all value [] kind first unknown so_far = absurd (cc)
values-fault written labels done all value (v ∷ values) kind first unknown so_far =
    let same : v ≡ value = cc in
    let here : value_of labels v ≡ Err kind = ap (value_of labels) same ∙ unknown in
    sym so_far ∙ ap (λ r. onto done (r >>= λ m. values_bytes written labels values >>= λ rest. Ok (written m ++ rest))) here

-- no value more
pub values-done : (written : ℕ → List ℕ) (labels : List Label) (done : List ℕ) (all : Result (List ℕ) AsmKind) (values : List Expression) → None ≡ slice_get values 0 → onto done (values_bytes written labels values) ≡ all → all ≡ Ok done
unfolding values_bytes
values-done written labels done all [] none so_far = sym so_far ∙ ap (λ bytes. Ok bytes) (append-nil done)
values-done written labels done all (v ∷ values) none so_far = absurd (cc)
