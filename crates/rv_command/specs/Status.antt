-- The number that the system is given of each way to end.
use Rattle.std.specs.Prelude.{ℕ}
use Rattle.rv_command.specs.declared.status.Status.{Status}
use Rattle.rv_command.specs.declared.status.Status.TheVariants.{Done, Input, Line, Stream, Memory, Found, Void}

abbrev pub code : Status → ℕ
code Done = 0
code Input = 1
code Line = 2
code Stream = 3
code Memory = 4
code Found = 5
code Void = 6
