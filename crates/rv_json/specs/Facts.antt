-- Members that are told, by their names.
use Rattle.std.specs.Prelude.{ℕ, List}
use Rattle.std.specs.Fmt.{decimal}
use Rattle.json.specs.Token.{begin_array, begin_object, null, number, string}
use Rattle.rv_json.specs.Object.{Member}
use Rattle.rv_text.specs.Hexadecimal.{word_digits}

-- that an object begins, or an array; a number, a word of 32 bits, a word of a fixed set, and that there is nothing
abbrev pub begins : List ℕ → Member
begins name = record { name = name; value = begin_object }

abbrev pub lists : List ℕ → Member
lists name = record { name = name; value = begin_array }

abbrev pub counted : List ℕ → ℕ → Member
counted name n = record { name = name; value = number (decimal n) }

abbrev pub digits : List ℕ → ℕ → Member
digits name word = record { name = name; value = string (word_digits word) }

abbrev pub worded : List ℕ → List ℕ → Member
worded name word = record { name = name; value = string word }

abbrev pub nothing : List ℕ → Member
nothing name = record { name = name; value = null }
