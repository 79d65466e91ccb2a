-- What holds of the texts in a page.
use Rattle.std.specs.Prelude.{◌≡◌, ℕ, Bool, false, ◌==◌, ◌||◌, List}
use Rattle.std.specs.List.{list_any}
use Rattle.rv_markup.specs.Escaped.{escaped, is_hidden}

-- `<` and `>`, which begin and end a tag, and the quotes of an attribute
abbrev pub is_markup : ℕ → Bool
is_markup byte = byte == 60 || (byte == 62 || (byte == 34 || byte == 39))

-- An escaped text opens and closes no element, and ends no attribute.
abbrev pub OpensNothing : Type 0
OpensNothing = (text : List ℕ) → list_any is_markup (escaped text) ≡ false

-- It is printable ASCII and LFs.
abbrev pub IsPlain : Type 0
IsPlain = (text : List ℕ) → list_any is_hidden (escaped text) ≡ false
