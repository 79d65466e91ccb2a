-- Which of several reports a race is told by.
use Rattle.std.specs.Prelude.{ℕ, nat_lt, if◌then◌else◌}

-- Of two with the ranks of their classes, the later only where its class is the stronger: it has the lower rank.
abbrev pub first_strongest : {A : Type 0} → A × ℕ → A × ℕ → A
first_strongest first later = if nat_lt later.1 first.1 then later.0 else first.0
