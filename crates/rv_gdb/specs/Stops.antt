-- Where the run stops, and what is told of it.
use Rattle.std.specs.Prelude.{ℕ, ◌+◌, ◌==◌, if◌then◌else◌, List, [], ◌∷◌, ◌++◌, codes}
use Rattle.rv_gdb.specs.declared.point.Kind.{Kind}
use Rattle.rv_gdb.specs.declared.point.Kind.TheVariants.{Software, Hardware, Write, Read, Access}
use Rattle.rv_gdb.specs.declared.points.Sight.{Sight}
use Rattle.rv_gdb.specs.declared.stop.Stop.{Stop}
use Rattle.rv_gdb.specs.declared.stop.Why.{Why}
use Rattle.rv_gdb.specs.declared.stop.Why.TheVariants.{Stands, Watched, End, Begin}
use Rattle.rv_hart.specs.declared.hart.Cause.{Cause}
use Rattle.rv_hart.specs.declared.hart.Cause.TheVariants as cause
use Rattle.rv_text.specs.Hexadecimal.{byte_digits, word_digits}

-- digits without the zeros (48) in front; the last of them stays
abbrev pub without_zeros : List ℕ → List ℕ
without_zeros [] = []
without_zeros (digit ∷ []) = digit ∷ []
without_zeros (digit ∷ next ∷ digits) = if digit == 48 then without_zeros (next ∷ digits) else digit ∷ next ∷ digits

-- a word in hexadecimal digits without leading zeros
unfoldable pub hexadecimal : ℕ → List ℕ
hexadecimal n = without_zeros (word_digits n)

-- thread t is hart t - 1
abbrev pub thread_of : ℕ → ℕ
thread_of hart = hart + 1

abbrev pub thread_text : ℕ → List ℕ
thread_text hart = hexadecimal (thread_of hart)

-- the name that a stop gives to a watchpoint
abbrev pub watch_name : Kind → List ℕ
watch_name Write = codes "watch"
watch_name Read = codes "rwatch"
watch_name Access = codes "awatch"
watch_name Software = []
watch_name Hardware = []

abbrev pub sight_text : Sight → List ℕ
sight_text sight = watch_name sight.kind ++ codes ":" ++ hexadecimal sight.address ++ codes ";"

abbrev pub why_text : Why → List ℕ
why_text Stands = []
why_text (Watched sight) = sight_text sight
why_text End = codes "replaylog:end;"
why_text Begin = codes "replaylog:begin;"

-- `TSS`, why, `thread:t;`
abbrev pub stop_text : Stop → List ℕ
stop_text stop = codes "T" ++ byte_digits stop.signal ++ why_text stop.why ++ codes "thread:" ++ thread_text stop.hart ++ codes ";"

-- The signal of a hart that is stopped by a cause, in the numbers of the protocol: SIGBUS 10,
-- SIGSEGV 11, SIGILL 4, SIGTRAP 5, SIGSYS 12. (GDB's manual, "Stop Reply Packets".)
abbrev pub signal_of : Cause → ℕ
signal_of cause.TargetMisaligned = 10
signal_of cause.FetchFault = 11
signal_of cause.Illegal = 4
signal_of cause.Breakpoint = 5
signal_of cause.LoadMisaligned = 10
signal_of cause.LoadFault = 11
signal_of cause.StoreMisaligned = 10
signal_of cause.StoreFault = 11
signal_of cause.UnknownCall = 12

-- the signal where nothing went wrong
abbrev pub trap : ℕ
trap = 5
