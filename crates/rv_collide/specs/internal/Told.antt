-- What one entry of a schedule accesses.
use Rattle.std.specs.Prelude.{Option, option_and_then, length}
use Rattle.rv_collide.specs.Entries.{stepped_hart}
use Rattle.rv_collide.specs.Next.{next}
use Rattle.rv_collide.specs.Stored.{Stored, setting_of}
use Rattle.rv_collide.specs.declared.entry.Entry.{Entry}
use Rattle.rv_hart.specs.declared.access.Access.{Access}

-- what an entry that is added at the end of the schedule accesses
abbrev pub accessed_by : Stored → Entry → Option Access
accessed_by c entry = option_and_then (λ hart. next (setting_of c).start c.entries (length c.entries) hart) (stepped_hart entry)
