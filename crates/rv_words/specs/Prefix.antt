-- What follows a prefix in a text that begins with it.
use Rattle.std.specs.Prelude.{ℕ, nat_eq, if◌then◌else◌, Option, Some, None, List, length, drop}
use Rattle.std.specs.List.{starts_with}

-- what follows the prefix in a text that begins with it
abbrev pub after : List ℕ → List ℕ → Option (List ℕ)
after prefix text = if starts_with nat_eq text prefix then Some (drop (length prefix) text) else None
