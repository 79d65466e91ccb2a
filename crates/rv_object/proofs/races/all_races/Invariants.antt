-- the races so far
use Rattle.std.proofs.Common.{◌≡◌, take}
use Rattle.rv_object.specs.HuntObject.{rows_facts_from}
use Rattle.rv_object.proofs.races.all_races.Given as goal

abbrev pub invariant-loop-n : goal.invariant-loop-n
invariant-loop-n l = l.json ≡ record l.fn.json { facts = rows_facts_from 1 (take l.n l.told) l.fn.json.facts }
