-- What a run leaves that is kept whole.
use Rattle.std.specs.Prelude.{◌≡◌}
use Rattle.rv_collide.specs.Answers.{IsOutput}
use Rattle.rv_collide.specs.Numbers.{numbers}
use Rattle.rv_collide.specs.Stored.{Stored, setting_of}
use Rattle.rv_collide.specs.Verdict.{endings}
use Rattle.rv_collide.specs.declared.collider.Finished.{Finished}

-- What the run leaves that is over with this core: its plan, its schedule, the endings of its pauses, and the bytes
-- printed.
pub record IsLeftBy (core : Stored) (told : Finished) : Type 0 where
  pub plan_is : numbers told.plan ≡ core.plan
  pub entries_are : told.entries.items ≡ core.entries
  pub endings_are : told.endings.items ≡ endings (setting_of core).start core.entries
  pub output_is : IsOutput core told.output.items
