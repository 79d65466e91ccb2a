-- What single steps of the reader give, which the contracts of private functions cite.
use Rattle.std.specs.Prelude.{◌≡◌, ℕ, ◌+◌, ◌-◌, ◌<◌, ◌≤◌, Bool, true, false, ◌&&◌, ◌||◌, nat_lt, nat_le, if◌then◌else◌, List, [], ◌∷◌, length, drop, Option, Some, None, option_map, Result, Ok, Err}
use Rattle.std.specs.List.{cons_option}
use Rattle.std.specs.Str.{is_utf8}
use Rattle.rv_elf.specs.declared.fault.LoadFault.{LoadFault}
use Rattle.rv_elf.specs.declared.fault.LoadFault.TheVariants.{BadSymbols}
use Rattle.rv_elf.specs.declared.layout.SymbolEntry.{SymbolEntry}
use Rattle.rv_elf.specs.Loaded.{is_candidate, name_of, text}

-- the name makes a symbol
abbrev pub is_name : List ℕ → Bool
is_name name = is_utf8 name && nat_le 1 (length name)

-- of each place of a text, and of the zero byte behind it: whether what is left of the text there is such a name
abbrev pub starts_in : List ℕ → List Bool
starts_in [] = false ∷ []
starts_in (b ∷ bytes) = is_name (b ∷ bytes) ∷ starts_in bytes

-- of each place of a string table that a zero byte follows: whether such a name begins there
abbrev pub name_starts : List ℕ → List Bool
name_starts [] = []
name_starts (b ∷ bytes) = cons_option (option_map is_name (text (b ∷ bytes))) (name_starts bytes)

-- the least place from which on the bytes are UTF-8
pub record IsUtf8From (bytes : List ℕ) (from : ℕ) : Type 0 where
  pub within : from ≤ length bytes
  pub rest : is_utf8 (drop from bytes) ≡ true
  pub least : (place : ℕ) → place < from → is_utf8 (drop place bytes) ≡ false

-- a byte that begins a character in UTF-8, or none does
abbrev pub is_first : ℕ → Bool
is_first byte = nat_lt byte 128 || nat_le 192 byte

-- the room that is left after one more name
abbrev pub room_after : ℕ → List ℕ → Result ℕ LoadFault
room_after room name = if nat_le (17 + length name) room then Ok (room - (17 + length name)) else Err BadSymbols

abbrev pub room_named : ℕ → Option (List ℕ) → Result ℕ LoadFault
room_named room None = Err BadSymbols
room_named room (Some name) = if is_utf8 name && nat_le 1 (length name) then room_after room name else Ok room

-- the room that is left after one more entry
unfoldable pub room_with : ℕ → List ℕ → SymbolEntry → Result ℕ LoadFault
room_with room strings s = if is_candidate s then room_named room (name_of strings s) else Ok room
