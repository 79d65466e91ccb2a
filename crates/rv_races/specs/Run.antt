-- A run: the image, the state in which it began, and its entries.
use Rattle.std.specs.Prelude.{List}
use Rattle.rv_collide.specs.declared.entry.Entry.{Entry}
use Rattle.rv_debug.specs.Placed.{Placed, setting}
use Rattle.rv_elf.specs.Contents.{Contents}
use Rattle.rv_hart.specs.State.{State}

pub record Run : Type 0 where
  pub image : Contents
  pub start : State
  pub entries : List Entry

-- the run of a session
abbrev pub run_of : Placed → Run
run_of p = record { image = p.image; start = (setting p).start; entries = p.entries }
