-- A writer with a buffer: what is pending, what its device has got, and both together.
use Rattle.std.specs.Prelude.{ℕ, Bool, List, Option}
use Rattle.std.specs.Io.KnownBytes.{append_known}
use Rattle.rv_memory.specs.Flagged as flag
use Rattle.rv_memory.specs.declared.buffered.Buffered.{Buffered}

-- the writer that is wrapped
abbrev pub device : {W : Type 0} → Buffered W → W
device b = flag.device b.device

-- what was put and has not gone to the device
abbrev pub pending : {W : Type 0} → Buffered W → List ℕ
pending b = b.pending.items

-- the bytes that the device has got, where they are known
abbrev pub sent : {W : Type 0} → (W → Option (List ℕ)) → Buffered W → Option (List ℕ)
sent contents b = contents (device b)

-- those and what is pending
abbrev pub written : {W : Type 0} → (W → Option (List ℕ)) → Buffered W → Option (List ℕ)
written contents b = append_known (sent contents b) (pending b)

-- whether the device has failed
abbrev pub has_failed : {W : Type 0} → Buffered W → Bool
has_failed b = flag.has_failed b.device
