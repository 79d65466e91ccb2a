-- What is shown of a state: registers and bytes in hexadecimal digits, and the threads.
use Rattle.std.specs.Prelude.{ℕ, ◌+◌, ◌-◌, ◌/◌, ◌%◌, ◌^◌, ◌==◌, zero, suc, nat_lt, if◌then◌else◌, Option, Some, None, List, [], ◌++◌, codes}
use Rattle.std.specs.Option.{option_map_or}
use Rattle.std.specs.List.{flat_map, range_with_len}
use Rattle.rv_gdb.specs.Stops.{thread_text}
use Rattle.rv_hart.specs.Registers.{get}
use Rattle.rv_hart.specs.declared.hart.Hart.{Hart}
use Rattle.rv_memory.specs.Memory.{Memory, byte}
use Rattle.rv_text.specs.Hexadecimal.{byte_digits}

-- ---- registers

-- a word in eight digits, its low byte first
abbrev pub word_text : ℕ → List ℕ
word_text word =
    byte_digits (word % 256) ++ (byte_digits (word / 256 % 256) ++ (byte_digits (word / 2 ^ 16 % 256) ++ byte_digits (word / 2 ^ 24)))

abbrev pub register_text : Hart → ℕ → List ℕ
register_text hart r = word_text (get hart.registers r)

-- x0 to x31, and pc
abbrev pub registers_text : Hart → List ℕ
registers_text hart = flat_map (register_text hart) (range_with_len 0 32) ++ word_text hart.pc

-- registers 0 to 31, and pc as register 32
abbrev pub register_at : Hart → ℕ → Option ℕ
register_at hart r = if nat_lt r 32 then Some (get hart.registers r) else if r == 32 then Some hart.pc else None

-- ---- memory

-- so many bytes from an address on, up to the first that is not there
abbrev pub bytes_text : Memory → ℕ → ℕ → List ℕ
bytes_text m address zero = []
bytes_text m address (suc count) = option_map_or (λ b. byte_digits b ++ bytes_text m (address + 1) count) (byte m address) []

-- ---- threads

abbrev pub next_thread : ℕ → List ℕ
next_thread hart = codes "," ++ thread_text hart

-- all threads, of so many harts
abbrev pub threads_text : ℕ → List ℕ
threads_text harts = codes "m" ++ thread_text 0 ++ flat_map next_thread (range_with_len 1 (harts - 1))

-- bytes in hexadecimal digits, two a byte
abbrev pub digits_of : List ℕ → List ℕ
digits_of bytes = flat_map byte_digits bytes
