-- The second access of a report: the other hart's, which the paused one has met.
use Rattle.std.specs.Prelude.{Option, unwrap_or}
use Rattle.rv_break.specs.declared.claim.Seen.{Seen}
use Rattle.rv_collide.specs.declared.ending.Ending.{Ending}
use Rattle.rv_collide.specs.declared.ending.Verdict.{Verdict}
use Rattle.rv_collide.specs.declared.ending.Verdict.TheVariants.{Hit, Changed, Quiet}

-- the paused access, as if it had been made
abbrev pub own_access : Ending → Seen
own_access told = record { place = told.paused_at; hart = told.hart; access = told.access }

-- The second access, by the last store to the bytes: the one that `exhibit` names too. A change has a last store, by a law of
-- the endings.
abbrev pub second_of : Ending → Option Seen → Verdict → Seen
second_of told last (Hit seen) = seen
second_of told last Changed = unwrap_or last (own_access told)
second_of told last Quiet = own_access told
