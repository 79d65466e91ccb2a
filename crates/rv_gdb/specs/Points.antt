-- The points at which the run stops, and which steps meet them.
use Rattle.std.specs.Prelude.{ℕ, ◌+◌, ◌-◌, ◌^◌, ◌==◌, ◌&&◌, Bool, true, false, min, nat_le, nat_lt, if◌then◌else◌, Option, Some, None, option_map, List, [], ◌∷◌, ◌++◌, filter, length, find, not}
use Rattle.std.specs.List.{list_any}
use Rattle.rv_hart.specs.declared.access.Access.{Access}
use Rattle.rv_gdb.specs.Search.{first_in}
use Rattle.rv_gdb.specs.declared.fields.Range.{Range}
use Rattle.rv_gdb.specs.declared.point.Kind.{Kind}
use Rattle.rv_gdb.specs.declared.point.Kind.TheVariants.{Software, Hardware, Write, Read, Access as Both}
use Rattle.rv_gdb.specs.declared.point.Point.{Point}
use Rattle.rv_gdb.specs.declared.points.TheConstants.{MOST_POINTS}
use Rattle.rv_gdb.specs.declared.points.Sight.{Sight}

-- ---- the set of them

-- the number that GDB gives a kind
abbrev pub kind_number : Kind → ℕ
kind_number Software = 0
kind_number Hardware = 1
kind_number Write = 2
kind_number Read = 3
kind_number Both = 4

-- the same kind, address and length
abbrev pub is_same : Point → Point → Bool
is_same one other =
    kind_number one.kind == kind_number other.kind && (one.bytes.from == other.bytes.from && one.bytes.length == other.bytes.length)

abbrev pub has_point : List Point → Point → Bool
has_point points point = list_any (is_same point) points

-- A point more. One that is there is set already; there is no room for more than `MOST_POINTS`.
unfoldable pub with_point : List Point → Point → Option (List Point)
with_point points point =
    if has_point points point then Some points else if nat_lt (length points) MOST_POINTS then Some (points ++ point ∷ []) else None

-- A point less. Where it is not there the points stay.
unfoldable pub without_point : List Point → Point → List Point
without_point points point = filter (λ other. not (is_same point other)) points

-- ---- a step that breaks

abbrev pub is_break : Kind → Bool
is_break Software = true
is_break Hardware = true
is_break Write = false
is_break Read = false
is_break Both = false

abbrev pub breaks_at : ℕ → Point → Bool
breaks_at pc point = is_break point.kind && point.bytes.from == pc

-- a step breaks where a point of kind 0 or 1 has the hart's pc as its address
unfoldable pub breaks : List Point → ℕ → Bool
breaks points pc = list_any (breaks_at pc) points

-- ---- an access that is seen

-- an access does what a kind watches for
abbrev pub does : Access → Kind → Bool
does access Software = false
does access Hardware = false
does access Write = access.write
does access Read = access.read
does access Both = true

-- the address is one of the bytes, whose addresses do not wrap
abbrev pub is_among : ℕ → Range → Bool
is_among address bytes = nat_le bytes.from address && nat_lt address (bytes.from + bytes.length)

-- a point of the kind has the address among its bytes
abbrev pub watches : Kind → ℕ → Point → Bool
watches kind address point = kind_number point.kind == kind_number kind && is_among address point.bytes

abbrev pub is_seen_by : List Point → Access → ℕ → Kind → Bool
is_seen_by points access address kind = does access kind && list_any (watches kind address) points

-- the kinds that watch, the least first
abbrev pub watching : List Kind
watching = Write ∷ Read ∷ Both ∷ []

-- a byte of the access is seen: by the least of the kinds that see it
abbrev pub seen_at : List Point → Access → ℕ → Option Sight
seen_at points access address =
    option_map (λ kind. record { kind = kind; address = address }) (find (is_seen_by points access address) watching)

-- how many bytes an access has; none lies past the last address
abbrev pub byte_count : Access → ℕ
byte_count access = min access.size (2 ^ 32 - access.first)

-- An access is seen at the least of its bytes that is.
unfoldable pub seen : List Point → Access → Option Sight
seen points access = first_in (seen_at points access) access.first (byte_count access)
