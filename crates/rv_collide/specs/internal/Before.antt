use Rattle.std.specs.Prelude.{Result, Ok, Err, List, ◌++◌}
use Rattle.rv_collide.specs.declared.entry.Entry.{Entry}
use Rattle.rv_collide.specs.declared.schedule.fault.ScheduleFault.{ScheduleFault}

-- entries that were read before the others
abbrev pub entries_before : List Entry → Result (List Entry) ScheduleFault → Result (List Entry) ScheduleFault
entries_before front (Err fault) = Err fault
entries_before front (Ok rest) = Ok (front ++ rest)
