-- the steps that are left, from here, lead where all of them led, and each may print a byte
use Rattle.std.proofs.Common.{◌≡◌, ◌+◌, ◌-◌, ◌≤◌, drop, length}
use Rattle.rv_words.specs.WordsGuest.{stepped}
use Rattle.rv_words.proofs.steps.make_steps.Given as goal

abbrev pub invariant-loop-number : goal.invariant-loop-number
invariant-loop-number l =
    record {
      left : stepped 0 l.initial.machine.state l.steps ≡ stepped l.number l.machine.state (drop l.number l.steps);
      room : length l.machine.state.output + (length l.steps - l.number) ≤ l.machine.limit;
      limit : l.machine.limit ≡ l.initial.machine.limit;
    }
