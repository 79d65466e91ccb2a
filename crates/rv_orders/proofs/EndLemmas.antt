-- What harts came to.
use Rattle.std.proofs.Common.{◌≡◌, ◌<◌, ◌≤◌, ℕ, zero, suc, Bool, true, false, Option, Some, None, List, [], ◌∷◌, ◌++◌, length, get_or, refl, sym, ap, subst, ◌∙◌, arith}
use Rattle.std.specs.Prelude.{IsSomeAnd, IsTrue, option_and_then, slice_get}
use Rattle.rv_hart.specs.Refusals.{is_running_hart}
use Rattle.rv_hart.specs.Run.{run}
use Rattle.rv_hart.specs.State.{State, is_running}
use Rattle.rv_hart.specs.declared.hart.Hart.{Hart}
use Rattle.rv_hart.specs.declared.hart.Status.TheVariants as status
use Rattle.rv_waits.specs.Round.{Waits}
use Rattle.rv_waits.specs.Stuck.{Runs}
use Rattle.rv_orders.proofs.RunnerLemmas.{run_append, runs_within}
use Rattle.rv_waits.specs.Turn.{AllMayRest}
use Rattle.rv_orders.specs.Driven.{AreDriven}
use Rattle.rv_orders.specs.Trial.{AreEnds, EndsDiffer, GoesAsFar, IsEnd, LeadsTo, words_of}
use Rattle.rv_orders.specs.declared.end.HartEnd.{HartEnd}
use Rattle.rv_orders.specs.declared.end.HartEnd.TheVariants.{Exited, Stopped, Polls, Parked, Running}
use Rattle.rv_orders.specs.declared.tried.Tried.{Tried}
use Rattle.rv_orders.specs.internal.Gone.{Gone, IsDriven, IsFar, IsOneMore}

-- ---- lists

pub get_within : {X : Type 0} → (xs : List X) (h : ℕ) (x : X) → slice_get xs h ≡ Some x → h < length xs
get_within [] h x is = cc
get_within (y ∷ xs) zero x is = omega arith
get_within (y ∷ xs) (suc h) x is = let below : h < length xs = get_within xs h x is in omega arith

some_at : {X : Type 0} → (xs : List X) (h : ℕ) → h < length xs → (x : X) × (slice_get xs h ≡ Some x)
some_at [] h below = absurd (omega arith)
some_at (x ∷ xs) zero below = (x, refl)
some_at (x ∷ xs) (suc h) below = some_at xs h (omega arith)

read : {X : Type 0} → (xs : List X) (h : ℕ) (x d : X) → slice_get xs h ≡ Some x → get_or xs h d ≡ x
read [] h x d is = cc
read (y ∷ xs) zero x d is = cc
read (y ∷ xs) (suc h) x d is = read xs h x d is

-- ends that were compared don't differ
pub alike : (ones others : List HartEnd) (h : ℕ) (one other d e : HartEnd) → (EndsDiffer (get_or ones h d) (get_or others h e) → IsTrue false) → slice_get ones h ≡ Some one → slice_get others h ≡ Some other → ¬ EndsDiffer one other
alike ones others h one other d e never of_one of_other differ =
    let moved : EndsDiffer (get_or ones h d) (get_or others h e) = subst (λ (x : HartEnd). EndsDiffer x (get_or others h e)) (sym (read ones h one d of_one)) (subst (EndsDiffer one) (sym (read others h other e of_other)) differ) in
    let f : false ≡ true = never moved in
    cc

-- ---- a copy that is over

not_both : (o : Option Hart) (P : Hart → Type 0) → ((hart : Hart) → P hart → is_running hart.status ≡ false) → is_running_hart o ≡ true → IsSomeAnd o P → ⊥
not_both None P ended runs is = absurd is
not_both (Some hart) P ended runs is = let e : false ≡ true = sym (ended hart is) ∙ runs in cc

waits_by : (s : State) (h : ℕ) (end : HartEnd) → Runs s h → IsEnd true s h end → Waits s h
waits_by s h (Exited code) runs is = absurd (not_both (slice_get s.harts h) (λ hart. hart.status ≡ status.Exited code) (λ hart e. ap is_running e) runs is)
waits_by s h (Stopped cause pc) runs is = absurd (not_both (slice_get s.harts h) (λ hart. (hart.status ≡ status.Stopped cause) × (hart.pc ≡ pc)) (λ hart e. ap is_running e.0) runs is)
waits_by s h (Polls pc) runs is = (length is.1.steps, is.1.round.round)
waits_by s h Parked runs is = (length is.1.steps, is.1.round.round)
waits_by s h Running runs is = let e : true ≡ false = is.0 in cc

-- each hart that runs waits
rest : (is_over : Bool) (s : State) (ends : List HartEnd) → AreEnds is_over s ends → is_over ≡ true → AllMayRest s
rest false s ends are over h runs = let e : false ≡ true = over in cc
rest true s ends are over h runs =
    let within : h < length s.harts = runs_within s.harts h runs in
    let count : length ends ≡ length s.harts = are.count in
    let found = some_at ends h (omega arith) in
    waits_by s h found.0 runs (are.each h found.0 found.1)

-- ---- a copy that has gone as far as it goes

-- the runner has the start and the most steps that it began with
same_begin : (s : State) (most number : ℕ) (first second third last : Gone) (one other : ℕ) → first ≡ record { start = s; harts = []; state = s; most = most } → IsOneMore first second one → IsOneMore second third other → IsDriven third last number → (last.start ≡ s) × (last.most ≡ most)
same_begin s most number first second third last one other begun step next on = (
  on.start ∙ next.start ∙ step.start ∙ ap (λ (g : Gone). g.start) begun,
  on.most ∙ next.most ∙ step.most ∙ ap (λ (g : Gone). g.most) begun,
)

pub led : (s : State) (most number : ℕ) (first second third last : Gone) (one other : ℕ) (tried : Tried) (end : State) → first ≡ record { start = s; harts = []; state = s; most = most } → IsOneMore first second one → IsOneMore second third other → IsDriven third last number → run last.start last.harts ≡ Some last.state → tried.harts.items ≡ last.harts → end ≡ last.state → AreEnds tried.is_over end tried.ends.items → LeadsTo s one other number tried end
led s most number first second third last one other tried end begun step next on reached harts at ends =
    let start : last.start ≡ s = (same_begin s most number first second third last one other begun step next on).0 in
    let none : first.harts ≡ [] = ap (λ (g : Gone). g.harts) begun in
    let stepped : second.harts ≡ one ∷ [] = step.harts ∙ ap (λ (hs : List ℕ). hs ++ one ∷ []) none in
    let both : third.harts ≡ one ∷ other ∷ [] = next.harts ∙ ap (λ (hs : List ℕ). hs ++ other ∷ []) stepped in
    let all : last.harts ≡ one ∷ other ∷ on.tail = on.harts ∙ ap (λ (hs : List ℕ). hs ++ on.tail) both in
    record {
      tail = on.tail;
      begins = harts ∙ all;
      driven = λ t at.
          let here : run s (one ∷ other ∷ []) ≡ Some third.state =
          run_append s (one ∷ []) (other ∷ []) ∙ ap (option_and_then (λ (u : State). run u (other ∷ []))) (ap (λ (u : State). run u (one ∷ [])) (sym (ap (λ (g : Gone). g.state) begun)) ∙ step.moved) ∙ next.moved in
          let both : Some third.state ≡ Some t = sym here ∙ at in
          let same : third.state ≡ t = cc in
          subst (λ (u : State). AreDriven (words_of number) u on.tail) same on.driven;
      leads = ap (run s) harts ∙ ap (λ (t : State). run t last.harts) (sym start) ∙ reached ∙ ap Some (sym at);
      ends = ends;
      rests = rest tried.is_over end tried.ends.items ends;
    }

fewer : (rests : Bool) (last : Gone) (t : State) → IsFar last rests → last.state ≡ t → length last.harts < last.most → AllMayRest t
fewer true last t far at less = subst AllMayRest at far
fewer false last t far at less = absurd (omega arith)

pub gone_far : (s : State) (most number : ℕ) (first second third last : Gone) (one other : ℕ) (tried : Tried) → first ≡ record { start = s; harts = []; state = s; most = most } → IsOneMore first second one → IsOneMore second third other → IsDriven third last number → (rests : Bool) → IsFar last rests → length last.harts ≤ last.most → run last.start last.harts ≡ Some last.state → tried.harts.items ≡ last.harts → GoesAsFar s most tried
gone_far s most number first second third last one other tried begun step next on rests far few reached harts =
    let begin = same_begin s most number first second third last one other begun step next on in
    let count : length tried.harts.items ≡ length last.harts = ap length harts in
    let same : last.most ≡ most = begin.1 in
    record {
      few = omega arith;
      fewer = λ less t leads.
          let both : Some last.state ≡ Some t = sym reached ∙ ap (λ (u : State). run u last.harts) begin.0 ∙ ap (run s) (sym harts) ∙ leads in
          let at : last.state ≡ t = cc in
          fewer rests last t far at (omega arith);
    }
