-- What holds of the bytes of a name.
use Rattle.std.proofs.Common.{◌≡◌, ℕ, ◌<◌, ◌≤◌, IsTrue, true, List, [], ◌∷◌, length, arith, lit<, refl, zero, suc}
use Rattle.std.specs.Prelude.{◌&&◌, nat_le, nat_lt, slice_index}
use Rattle.std.specs.List.{list_all}
use Rattle.std.proofs.lemmas.Bool.{and_parts}
use Rattle.std.proofs.lemmas.Bool.Decides.{nat_tests}
use Rattle.std.specs.Str.{IsUtf8}
use Rattle.std.proofs.lemmas.Str.{IsUtf8-from_ascii}
use Rattle.rv_asm.specs.Text.{is_name, begins_name, is_name_byte}

-- a name has a byte, and at most 255
pub is_name-length : (name : List ℕ) → IsTrue (is_name name) → (1 ≤ length name) × (length name ≤ 255)
is_name-length [] is = absurd (cc)
is_name-length (byte ∷ name) is =
    let few = (and_parts (begins_name byte && list_all is_name_byte name) (nat_le (length name) 254) is).1 in
    let most : length name ≤ 254 = grind (arith, nat_tests) in
    (omega arith, omega arith)

-- ---- a name is a text

byte_is_ascii : (byte : ℕ) → is_name_byte byte ≡ true → byte < 128
byte_is_ascii byte is = grind (arith, nat_tests)

byte_is_some : (byte : ℕ) → is_name_byte byte ≡ true → nat_lt 0 byte ≡ true
byte_is_some byte is = grind (arith, nat_tests)

all_ascii : (name : List ℕ) → list_all is_name_byte name ≡ true → (i : ℕ) → slice_index name i < 128
all_ascii [] is i = lit< tt
all_ascii (byte ∷ name) is zero = byte_is_ascii byte (and_parts (is_name_byte byte) (list_all is_name_byte name) is).0
all_ascii (byte ∷ name) is (suc i) = all_ascii name (and_parts (is_name_byte byte) (list_all is_name_byte name) is).1 i

all_some : (name : List ℕ) → list_all is_name_byte name ≡ true → list_all (λ b. nat_lt 0 b) name ≡ true
all_some [] is = refl
all_some (byte ∷ name) is =
    let parts = and_parts (is_name_byte byte) (list_all is_name_byte name) is in
    rw (byte_is_some byte parts.0) (all_some name parts.1)

-- the first byte of a name is a byte of a name
name_bytes : (name : List ℕ) → IsTrue (is_name name) → list_all is_name_byte name ≡ true
name_bytes [] is = absurd (cc)
name_bytes (byte ∷ name) is =
    let parts = and_parts (begins_name byte && list_all is_name_byte name) (nat_le (length name) 254) is in
    let first = and_parts (begins_name byte) (list_all is_name_byte name) parts.0 in
    rw first.0 first.1

pub is_name_utf8 : (name : List ℕ) → IsTrue (is_name name) → IsUtf8 name
is_name_utf8 name is = IsUtf8-from_ascii name (all_ascii name (name_bytes name is))

pub is_name_unbroken : (name : List ℕ) → IsTrue (is_name name) → list_all (λ b. nat_lt 0 b) name ≡ true
is_name_unbroken name is = all_some name (name_bytes name is)
