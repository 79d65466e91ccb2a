-- Where bytes are the text of a source, and where not.
use Rattle.std.proofs.Common.{◌≡◌, ℕ, List, length, true, false, arith, Ok, Err, refl}
use Rattle.std.specs.Prelude.{◌==◌, take}
use Rattle.std.specs.Str.{IsUtf8, IsValidUpTo}
use Rattle.std.specs.Str.Lossy.{utf8_valid_len}
use Rattle.std.proofs.lemmas.Bool.Decides.{nat_tests}
use Rattle.std.proofs.lemmas.Str.{utf8_valid_len-IsUtf8, utf8_valid_len-IsValidUpTo}
use Rattle.rv_engines.specs.Sources.{line_after, unless_other}
use Rattle.rv_faults.specs.declared.fault.Fault.TheVariants.{Asm}
use Rattle.rv_asm.specs.declared.statement.AsmKind.TheVariants.{Word}

pub is_text : (bytes : List ℕ) → IsUtf8 bytes → unless_other bytes ≡ Ok bytes
is_text bytes text =
    let same : (utf8_valid_len bytes == length bytes) ≡ true = let e = utf8_valid_len-IsUtf8 bytes text in grind (arith, nat_tests, e) in
    rw same refl

pub is_other : (bytes : List ℕ) (n : ℕ) → IsValidUpTo bytes n → unless_other bytes ≡ Err (Asm (record { line = line_after (take n bytes); kind = Word }))
is_other bytes n valid =
    let e = utf8_valid_len-IsValidUpTo bytes n valid in
    let other : (utf8_valid_len bytes == length bytes) ≡ false = grind (arith, nat_tests, e, valid.short) in
    rw (other, e) refl
