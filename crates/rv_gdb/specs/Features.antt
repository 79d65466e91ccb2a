-- The text that tells GDB what the harts' registers are. (GDB's manual, "Target Description Format".)
use Rattle.std.specs.Prelude.{ℕ, ◌+◌, ◌==◌, min, nat_le, nat_lt, if◌then◌else◌, ◌&&◌, List, ◌++◌, codes, length, take, drop}
use Rattle.std.specs.List.{flat_map, range_with_len}
use Rattle.std.specs.Fmt.{decimal}
use Rattle.rv_gdb.specs.declared.features.TheConstants.{MOST_PART}
use Rattle.rv_gdb.specs.declared.fields.Range.{Range}

-- The architecture, and no operating system: a GDB that was built for one would put breakpoints in place of steps.
unfoldable pub head : List ℕ
head =
    codes "<?xml version=\"1.0\"?><!DOCTYPE target SYSTEM \"gdb-target.dtd\"><target version=\"1.0\"><architecture>riscv:rv32</architecture>"
    ++ codes "<osabi>none</osabi><feature name=\"org.gnu.gdb.riscv.cpu\">"

-- x1 holds addresses of code; x2, x3 and x4 addresses of data
abbrev pub type_of : ℕ → List ℕ
type_of r = if r == 1 then codes "code_ptr" else if nat_le 2 r && nat_le r 4 then codes "data_ptr" else codes "int"

abbrev pub register_element : ℕ → List ℕ
register_element r =
    codes "<reg name=\"x" ++ (decimal r ++ (codes "\" bitsize=\"32\" type=\"" ++ (type_of r ++ (codes "\" regnum=\"" ++ (decimal r ++ codes "\"/>")))))

unfoldable pub tail : List ℕ
tail = codes "<reg name=\"pc\" bitsize=\"32\" type=\"code_ptr\" regnum=\"32\"/></feature></target>"

-- x0 to x31
abbrev pub register_elements : List ℕ
register_elements = flat_map register_element (range_with_len 0 32)

unfoldable pub features_text : List ℕ
features_text = head ++ (register_elements ++ tail)

-- A part of a text, so many bytes from a place on: `l` where the text ends within it, else `m`, and the bytes.
abbrev pub part_of : List ℕ → ℕ → ℕ → List ℕ
part_of text from count = (if nat_lt (from + count) (length text) then codes "m" else codes "l") ++ take count (drop from text)

-- no part has more than `MOST_PART` bytes
abbrev pub features_part : Range → List ℕ
features_part range = part_of features_text range.from (min range.length MOST_PART)
