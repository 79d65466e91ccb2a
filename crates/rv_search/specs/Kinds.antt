-- How harts ended, kind by kind.
use Rattle.std.specs.Prelude.{ℕ, ◌+◌, ◌==◌, ◌&&◌, Bool, nat_lt, if◌then◌else◌, List, [], ◌∷◌, ◌++◌, length, map}
use Rattle.std.specs.List.{list_any}
use Rattle.rv_collide.specs.Counts.{saturated}
use Rattle.rv_hart.specs.Cause.{number}
use Rattle.rv_search.specs.declared.end.End.{End}
use Rattle.rv_search.specs.declared.end.End.TheVariants.{Exited, Stopped, Polls, Idle, Parked, OutOfSteps}
use Rattle.rv_search.specs.declared.tally.kinds.Kind.{Kind}
use Rattle.rv_search.specs.declared.tally.kinds.Mark.{Mark}

-- what tells a way of ending from others: which it is, and its code, or its cause and address, or its address
abbrev pub mark : End → Mark
mark (Exited code) = record { way = 0; cause = code; address = 0 }
mark (Stopped cause pc) = record { way = 1; cause = number cause; address = pc }
mark (Polls pc) = record { way = 2; cause = 0; address = pc }
mark Parked = record { way = 3; cause = 0; address = 0 }
mark OutOfSteps = record { way = 4; cause = 0; address = 0 }
mark Idle = record { way = 5; cause = 0; address = 0 }

abbrev pub same_end : End → End → Bool
same_end one other =
    (mark one).way == (mark other).way && (mark one).cause == (mark other).cause && (mark one).address == (mark other).address

-- The kinds that were met first, each with how many there were of it, and how many there were of all others.
pub record Kinds : Type 0 where
  pub told : List Kind
  pub rest : ℕ

abbrev pub no_kinds : Kinds
no_kinds = record { told = []; rest = 0 }

-- a kind after one more end
abbrev pub counted : End → Kind → Kind
counted end kind = if same_end kind.end end then record { end = kind.end; count = saturated (kind.count + 1) } else kind

abbrev pub is_of : End → Kind → Bool
is_of end kind = same_end kind.end end

-- One more end: of a kind that was met, or of a new one, which has a line of its own where fewer than eight have.
unfoldable pub one_more : Kinds → End → Kinds
one_more kinds end =
    if list_any (is_of end) kinds.told then record kinds { told = map (counted end) kinds.told }
    else (if nat_lt (length kinds.told) 8 then record kinds { told = kinds.told ++ record { end = end; count = 1 } ∷ [] }
    else record kinds { rest = saturated (kinds.rest + 1) })
