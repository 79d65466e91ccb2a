-- The names of the schedules in a folder.
use Rattle.std.specs.Prelude.{ℕ, ◌/◌, ◌%◌, false, Option, Some, None, List, [], ◌++◌, codes}
use Rattle.std.specs.Fmt.{decimal, radix_digits}
use Rattle.rv_files.specs.declared.folder.Kind.{Kind}
use Rattle.rv_files.specs.declared.folder.Kind.TheVariants as saved
use Rattle.rv_files.specs.declared.folder.Saved.{Saved}

-- what the names of its files begin with
abbrev pub word_of : Kind → List ℕ
word_of saved.Race = codes "race"
word_of saved.First = codes "race"
word_of saved.Second = codes "race"
word_of saved.StuckEnd = codes "stuck"
word_of saved.Ended = codes "end"
word_of saved.Pair = []
word_of saved.Single = []

-- what stands behind the number in them
abbrev pub tail_of : Kind → List ℕ
tail_of saved.Race = []
tail_of saved.First = codes "-first"
tail_of saved.Second = codes "-second"
tail_of saved.StuckEnd = []
tail_of saved.Ended = []
tail_of saved.Pair = []
tail_of saved.Single = []

-- the eight digits of an address
abbrev pub address_digits : ℕ → List ℕ
address_digits address =
    radix_digits 16 false (address / 0x10000000 % 16) ++ (radix_digits 16 false (address / 0x1000000 % 16) ++ (radix_digits 16 false (address / 0x100000 % 16) ++ (radix_digits 16 false (address / 0x10000 % 16)
    ++ (radix_digits 16 false (address / 0x1000 % 16) ++ (radix_digits 16 false (address / 0x100 % 16) ++ (radix_digits 16 false (address / 0x10 % 16) ++ radix_digits 16 false (address % 16)))))))

abbrev pub numbered : Kind → ℕ → List ℕ
numbered kind number = word_of kind ++ (codes "-" ++ (decimal number ++ tail_of kind))

-- a race's while the hunt goes on has its addresses, and all others a number
abbrev pub name_by : Kind → ℕ → List ℕ
name_by saved.Race number = numbered saved.Race number
name_by saved.First number = numbered saved.First number
name_by saved.Second number = numbered saved.Second number
name_by saved.StuckEnd number = numbered saved.StuckEnd number
name_by saved.Ended number = numbered saved.Ended number
name_by saved.Pair number = address_digits (number / 0x100000000) ++ (codes "-" ++ address_digits (number % 0x100000000))
name_by saved.Single number = address_digits (number % 0x100000000)

-- the name of a schedule's file, but for `.schedule`
abbrev pub name_of : Saved → List ℕ
name_of file = name_by file.kind file.number

abbrev pub schedule_file : Option Saved → List ℕ
schedule_file None = []
schedule_file (Some file) = codes "/" ++ (name_of file ++ codes ".schedule")
