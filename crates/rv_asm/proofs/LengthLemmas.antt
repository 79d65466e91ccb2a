-- The bytes of a statement are as many as it takes.
use Rattle.std.proofs.Common.{◌≡◌, ℕ, ◌+◌, ◌*◌, List, [], ◌∷◌, ◌++◌, length, Option, Some, None, Result, Ok, Err, refl, ap, sym, ◌∙◌, arith, length-append}
use Rattle.std.proofs.lemmas.List.{length-replicate}
use Rattle.std.specs.Prelude.{replicate, nat_le, ◌&&◌, true}
use Rattle.rv_isa.specs.declared.instr.Instr.{Instr}
use Rattle.rv_isa.specs.declared.op.Op.{Op}
use Rattle.rv_memory.specs.Chain.{◌>>=◌}
use Rattle.rv_asm.specs.Instruction.{fields, instruction, distance, load_pair}
use Rattle.rv_asm.specs.Bytes.{value_of, address_named, values_bytes, jump_bytes, la_bytes, instr_bytes, pair_bytes, statement_bytes, bytes_of, word_bytes, low_byte}
use Rattle.rv_asm.specs.Size.{size_of}
use Rattle.rv_asm.specs.Layout.{address_of, bytes_before, limit_of, label_size}
use Rattle.rv_asm.specs.Assembled.{is_within}
use Rattle.rv_asm.specs.internal.Within.{IsWithin}
use Rattle.rv_asm.specs.declared.passes.place.Place.{Place}
use Rattle.rv_asm.specs.declared.statement.Section.{Section}
use Rattle.rv_asm.specs.declared.statement.Section.TheVariants.{Text, Data}
use Rattle.std.proofs.lemmas.Bool.Decides.{nat_tests}
use Rattle.rv_asm.specs.declared.passes.place.Label.{Label}
use Rattle.rv_asm.specs.declared.statement.AsmKind.{AsmKind}
use Rattle.rv_asm.specs.declared.statement.Expression.{Expression}
use Rattle.rv_asm.specs.declared.statement.Statement.{Statement}
use Rattle.rv_asm.specs.declared.statement.Statement.TheVariants as statement

instr_length : (i : Instr) → length (instr_bytes i) ≡ 4
instr_length i = refl

pair_length : (pair : Instr × Instr) → length (pair_bytes pair) ≡ 8
pair_length pair = refl

values_length : (written : ℕ → List ℕ) (k : ℕ) → ((n : ℕ) → length (written n) ≡ k) → (labels : List Label) (values : List Expression) (bytes : List ℕ) → values_bytes written labels values ≡ Ok bytes → length bytes ≡ k * length values
unfolding values_bytes
values_length written k each labels [] bytes e = let none : [] ≡ bytes = cc in ap length (sym none) ∙ omega arith
values_length written k each labels (v ∷ values) bytes e = at (value_of labels v) (values_bytes written labels values) (values_length written k each labels values) e where
  at : (r : Result ℕ AsmKind) (q : Result (List ℕ) AsmKind) → ((rest : List ℕ) → q ≡ Ok rest → length rest ≡ k * length values) → (r >>= λ n. q >>= λ rest. Ok (written n ++ rest)) ≡ Ok bytes → length bytes ≡ k * length (v ∷ values)
  at (Err kind) q shorter e = absurd (cc)
  at (Ok n) (Err kind) shorter e = absurd (cc)
  at (Ok n) (Ok rest) shorter e =
      let is : bytes ≡ written n ++ rest = cc in
      let first : length (written n) ≡ k = each n in
      let others : length rest ≡ k * length values = shorter rest refl in
      omega (arith, ap length is, length-append (written n) rest, first, others)

jump_length : (labels : List Label) (address : ℕ) (op : Op) (rd rs1 rs2 : ℕ) (target : Expression) (bytes : List ℕ) → jump_bytes labels address op rd rs1 rs2 target ≡ Ok bytes → length bytes ≡ 4
unfolding jump_bytes
jump_length labels address op rd rs1 rs2 target bytes e = at (value_of labels target) e where
  encoded : (q : Result Instr AsmKind) → (q >>= λ i. Ok (instr_bytes i)) ≡ Ok bytes → length bytes ≡ 4
  encoded (Err kind) e = absurd (cc)
  encoded (Ok i) e = let is : bytes ≡ instr_bytes i = cc in ap length is ∙ instr_length i

  at : (r : Result ℕ AsmKind) → (r >>= λ t. instruction op (fields rd rs1 rs2 (distance address t)) >>= λ i. Ok (instr_bytes i)) ≡ Ok bytes → length bytes ≡ 4
  at (Err kind) e = absurd (cc)
  at (Ok t) e = encoded (instruction op (fields rd rs1 rs2 (distance address t))) e

la_length : (labels : List Label) (rd : ℕ) (name : List ℕ) (bytes : List ℕ) → la_bytes labels rd name ≡ Ok bytes → length bytes ≡ 8
unfolding la_bytes
la_length labels rd name bytes e = at (address_named labels name) e where
  encoded : (q : Result (Instr × Instr) AsmKind) → (q >>= λ pair. Ok (pair_bytes pair)) ≡ Ok bytes → length bytes ≡ 8
  encoded (Err kind) e = absurd (cc)
  encoded (Ok pair) e = let is : bytes ≡ pair_bytes pair = cc in ap length is ∙ pair_length pair

  at : (r : Result ℕ AsmKind) → (r >>= λ to. load_pair rd to >>= λ pair. Ok (pair_bytes pair)) ≡ Ok bytes → length bytes ≡ 8
  at (Err kind) e = absurd (cc)
  at (Ok to) e = encoded (load_pair rd to) e

pub statement_length : (labels : List Label) (address : ℕ) (s : Statement) (bytes : List ℕ) → statement_bytes labels address s ≡ Ok bytes → length bytes ≡ size_of s
unfolding statement_bytes size_of
statement_length labels address (statement.Instr instr) bytes e = let is : bytes ≡ instr_bytes instr = cc in ap length is
statement_length labels address (statement.Pair first second) bytes e = let is : bytes ≡ pair_bytes (first, second) = cc in ap length is
statement_length labels address (statement.Jump op rd rs1 rs2 target) bytes e = jump_length labels address op rd rs1 rs2 target bytes e
statement_length labels address (statement.La rd name) bytes e = la_length labels rd name bytes e
statement_length labels address (statement.Section section) bytes e = let is : bytes ≡ [] = cc in ap length is
statement_length labels address (statement.Words values) bytes e = values_length word_bytes 4 (λ n. refl) labels values bytes e
statement_length labels address (statement.Bytes values) bytes e = values_length low_byte 1 (λ n. refl) labels values bytes e ∙ omega arith
statement_length labels address (statement.Zero count) bytes e = let is : bytes ≡ replicate count 0 = cc in ap length is ∙ length-replicate count 0
statement_length labels address statement.Global bytes e = let is : bytes ≡ [] = cc in ap length is

-- a statement passes no limit exactly where its bytes pass none
pub within_by_length : (labels : List Label) (place : Place) (label : Option (List ℕ)) (s : Option Statement) (bytes : List ℕ) → IsWithin place → bytes_of labels (address_of place) s ≡ Ok bytes → is_within place label s ≡ (nat_le (label_size label) place.label_room && nat_le (bytes_before place.section place + length bytes) (limit_of place.section))
within_by_length labels place label None bytes within are =
    let none : bytes ≡ [] = cc in
    let fits : nat_le (bytes_before place.section place + length bytes) (limit_of place.section) ≡ true = rw none (at place.section) in
    rw fits refl where
      at : (t : Section) → nat_le (bytes_before t place + 0) (limit_of t) ≡ true
      at Text = let most = within.text in grind (arith, nat_tests)
      at Data = let most = within.datas in grind (arith, nat_tests)
within_by_length labels place label (Some s) bytes within are = rw (statement_length labels (address_of place) s bytes are) refl
