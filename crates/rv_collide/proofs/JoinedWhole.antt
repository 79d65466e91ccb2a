-- What a run leaves that went on from a fork, told from the start of the run before.
use Rattle.std.proofs.Common.{◌≡◌, ◌+◌, ◌≤◌, ◌<◌, ◌^◌, List, ◌++◌, length, map, min, max, refl, sym, ap, subst, ◌∙◌, arith, All}
use Rattle.std.specs.Prelude.{count_by}
use Rattle.rv_collide.specs.Armed.{arms}
use Rattle.rv_collide.specs.Joined.{Fork, GoesOnFrom, IsNarrowed, IsWhole, ending_later, plan_for, steps_needed}
use Rattle.rv_collide.specs.Legal.{IsLegal}
use Rattle.rv_collide.specs.Plan.{IsPlan, Numbers}
use Rattle.rv_collide.specs.Verdict.{endings}
use Rattle.rv_collide.specs.declared.ending.Ending.{Ending}
use Rattle.rv_collide.specs.declared.entry.Entry.{Entry}
use Rattle.rv_collide.specs.declared.plan.TheConstants.{MOST_ARMS, MOST_STEPS}
use Rattle.rv_collide.specs.internal.Joins.{IsPlaced}
use Rattle.rv_hart.specs.State.{State}
use Rattle.rv_collide.proofs.JoinedEndings.{all_placed}
use Rattle.rv_collide.proofs.JoinedLegal.{joined_is_legal, room_is_enough}
use Rattle.rv_collide.proofs.JoinedLists.{lists_join}
use Rattle.rv_collide.proofs.JoinedPlans.{arms_append, needed_append, needs_no_more}

abbrev pub capped : Numbers → List Entry → Numbers
capped after entries = record after { steps = max 1 (min MOST_STEPS (steps_needed entries)); arms = min MOST_ARMS (count_by arms entries) }

-- what a list needs is not cut where it fits
pub uncapped : (plan : Numbers) (entries : List Entry) → steps_needed entries ≤ MOST_STEPS → count_by arms entries ≤ MOST_ARMS → capped plan entries ≡ plan_for plan entries
uncapped plan entries s a =
    let same_steps : max 1 (min MOST_STEPS (steps_needed entries)) ≡ max 1 (steps_needed entries) = omega arith in
    let same_arms : min MOST_ARMS (count_by arms entries) ≡ count_by arms entries = omega arith in
    ap (λ n. record plan { steps = n; arms = min MOST_ARMS (count_by arms entries) }) same_steps
    ∙ ap (λ n. record plan { steps = max 1 (steps_needed entries); arms = n }) same_arms

pub narrowed_of : (start : State) (plan narrow : Numbers) (entries : List Entry) → IsPlan plan → IsLegal (record { start = start; plan = plan }) entries → narrow ≡ capped plan entries → IsNarrowed start plan narrow entries
narrowed_of start plan narrow entries range legal is =
    let own = needs_no_more start plan entries legal in
    let s = own.steps_of in let a = own.arms_of in
    let r1 = range.steps in let r2 = range.arms in
    let same : narrow ≡ plan_for plan entries = is ∙ uncapped plan entries (omega arith) (omega arith) in
    record {
      legal = subst (λ (n : Numbers). IsLegal (record { start = start; plan = n }) entries) (sym same)
          (room_is_enough start plan (plan_for plan entries) entries legal (record { harts = refl; slots = refl; room = omega arith; arms_made = omega arith }));
      plan_is = same;
    }

record Fits (fork : Fork) (entries : List Entry) : Type 0 where
  pub steps_fit : steps_needed entries ≤ MOST_STEPS
  pub arms_fit : count_by arms entries ≤ MOST_ARMS

module _ (fork : Fork) (prefix own : List Entry) (told ended : List Ending) (after : Numbers) (goes : GoesOnFrom fork prefix told after own ended) where
  both_fit : Fits fork (prefix ++ own)
  both_fit =
      let prefix_is = goes.is_prefix in
      let first = needs_no_more fork.start fork.plan prefix prefix_is.legal in
      let later = needs_no_more fork.end after own goes.legal in
      let range = goes.in_range in
      let s1 = first.steps_of in let s2 = later.steps_of in let s3 = goes.steps_left in let s4 = range.steps in
      let a1 = first.arms_of in let a2 = later.arms_of in let a3 = goes.arms_left in let a4 = range.arms in
      let s = needed_append prefix own in
      let a = arms_append prefix own in
      record { steps_fit = omega arith; arms_fit = omega arith }

  plan_is : capped after (prefix ++ own) ≡ plan_for after (prefix ++ own)
  plan_is = let fit = both_fit in uncapped after (prefix ++ own) fit.steps_fit fit.arms_fit

  whole_legal : IsLegal (record { start = fork.start; plan = plan_for after (prefix ++ own) }) (prefix ++ own)
  whole_legal =
      let most : steps_needed (prefix ++ own) ≤ max 1 (steps_needed (prefix ++ own)) = omega arith in
      let all : count_by arms (prefix ++ own) ≤ count_by arms (prefix ++ own) = omega arith in
      joined_is_legal fork.start fork.end fork.plan after (plan_for after (prefix ++ own)) prefix own goes.is_prefix goes.legal
      (record { harts = sym goes.harts; slots = sym goes.slots; room = most; arms_made = all })
      (record { harts = refl; slots = refl; room = most; arms_made = all })

  whole_told : length prefix + length own < 2 ^ 32 → (all : List Ending) → (All (IsPlaced (length prefix)) ended → all ≡ told ++ map (ending_later (length prefix)) ended) → all ≡ endings fork.start (prefix ++ own)
  whole_told short all is =
      let joins = lists_join (record { start = fork.start; plan = fork.plan }) prefix own fork.end goes.is_prefix in
      is (subst (All (IsPlaced (length prefix))) (sym goes.ended_are) (all_placed fork.end own (length prefix) short))
      ∙ ap (λ es. es ++ map (ending_later (length prefix)) ended) goes.told_are
      ∙ ap (λ es. endings fork.start prefix ++ map (ending_later (length prefix)) es) goes.ended_are
      ∙ sym joins.endings_are

  pub whole_of : (whole : Numbers) (entries : List Entry) (all : List Ending) → length prefix + length own < 2 ^ 32 → entries ≡ prefix ++ own → (All (IsPlaced (length prefix)) ended → all ≡ told ++ map (ending_later (length prefix)) ended) → whole ≡ capped after entries → IsWhole fork after whole entries all
  whole_of whole entries all short are is plan =
      let same : whole ≡ plan_for after (prefix ++ own) = plan ∙ ap (capped after) are ∙ plan_is in
      subst (λ (xs : List Entry). IsWhole fork after whole xs all) (sym are)
      (record {
        legal = subst (λ (n : Numbers). IsLegal (record { start = fork.start; plan = n }) (prefix ++ own)) (sym same) whole_legal;
        told_are = whole_told short all is;
        plan_is = same;
      })
