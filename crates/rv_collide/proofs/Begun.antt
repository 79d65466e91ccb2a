-- What the core keeps before its first entry.
use Rattle.std.proofs.Common.{◌≡◌, ℕ, zero, suc, ◌+◌, ◌≤◌, [], ◌∷◌, length, map, Some, None, refl, sym, ap, ◌∙◌, arith, zero-le}
use Rattle.std.specs.FinSet.{len-empty}
use Rattle.std.specs.Ordering.{nat_cmp}
use Rattle.std.specs.List.{range_with_len}
use Rattle.std.specs.Prelude.{replicate}
use Rattle.rv_break.specs.Breakpoints.{Breaks, no_breaks}
use Rattle.rv_break.specs.Slots.{Slots}
use Rattle.rv_collide.specs.Armed.{armed, last_armed, mentions}
use Rattle.rv_collide.specs.Entries.{places, steps}
use Rattle.rv_collide.specs.Forced.{Setting}
use Rattle.rv_collide.specs.Pause.{openings, openings_from}
use Rattle.rv_collide.specs.StateAt.{state_at}
use Rattle.rv_collide.specs.Verdict.{endings}
use Rattle.rv_collide.specs.internal.Core.{IsCore, slot_at, slots_of}
use Rattle.rv_hart.specs.State.{Guest, State}

none_claimed : (start : State) (first count : ℕ) → replicate count None ≡ map (slot_at start []) (range_with_len first count)
unfolding slot_at openings openings_from
none_claimed start first zero = refl
none_claimed start first (suc count) = ap (λ (claims : Slots). None ∷ claims) (none_claimed start (first + 1) count)

pub core_new : (setting : Setting) (m : Guest) (b : Breaks) → m.state ≡ setting.start → length setting.start.harts ≡ setting.plan.harts → length setting.start.output + setting.plan.steps ≤ m.limit → b ≡ no_breaks setting.plan.slots → IsCore setting [] m b [] [] 0 0
unfolding state_at steps armed mentions places last_armed slots_of slot_at openings openings_from endings
core_new setting m b is harts limit none =
    record {
      legal = λ place entry there. cc;
      now = ap Some (sym is);
      harts = ap (λ (s : State). length s.harts) is ∙ harts;
      limit = limit;
      output = (let size : length m.state.output ≡ length setting.start.output = ap (λ (s : State). length s.output) is in omega arith);
      counted = refl;
      arms_counted = refl;
      armed_are = ap (λ (x : Breaks). x.armed) none;
      slots_are = ap (λ (x : Breaks). x.slots) none ∙ none_claimed setting.start 0 setting.plan.slots;
      openings_are = refl;
      kept = tt;
      apart = tt;
      endings_are = refl;
      room = (
          let e = len-empty nat_cmp in
          record { steps_left = zero-le; arms_left = zero-le; few = omega arith; few_endings = omega arith }
          );
    }
