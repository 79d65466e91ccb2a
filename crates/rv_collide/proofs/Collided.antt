-- What holds of a core, from what holds of its detector.
use Rattle.std.proofs.Common.{◌≡◌, ◌≤◌, length, Some, refl, ap, ◌∙◌, arith}
use Rattle.rv_collide.specs.Answers as answer
use Rattle.rv_collide.specs.Begun.{Begun, begun, begun_of}
use Rattle.rv_collide.specs.Detected as detected
use Rattle.rv_collide.specs.Laws.{ReservationsAreHeld}
use Rattle.rv_collide.specs.Legal.{IsLegal}
use Rattle.rv_collide.specs.StateAt.{state_at}
use Rattle.rv_collide.specs.Stored.{Stored, setting_of, stored}
use Rattle.rv_collide.specs.WalkLaws.{StepsPrintFew}
use Rattle.rv_elf.specs.Contents.{Contents}
use Rattle.rv_hart.specs.State.{State, start}

-- a detector that begins at an image's start is what the core is
pub core_is : (image : Contents) (d : Begun) (v : Stored) → d.start ≡ start image.segments image.entry d.plan.harts → stored image d.plan d.entries ≡ v → d ≡ begun_of v
core_is image d v begins is = ap (λ (s : State). begun s d.plan d.entries) begins ∙ ap begun_of is

pub facts_of_core : ReservationsAreHeld → (v : Stored) → detected.AreFacts (begun_of v) → answer.AreFacts v
facts_of_core held v facts = record {
  legal = facts.legal;
  few = facts.few;
  state = facts.state;
  reservations = λ t is. held v.image.segments v.image.entry v.plan.harts v.entries (length v.entries) t (omega arith) is;
  reports = facts.reports;
}

pub printed_few : StepsPrintFew → (v : Stored) → IsLegal (setting_of v) v.entries → (s : State) → state_at (setting_of v).start v.entries (length v.entries) ≡ Some s → length s.output ≤ v.plan.steps
printed_few law v legal s at = law (setting_of v) v.entries legal refl (length v.entries) (omega arith) s at
