use Rattle.std.proofs.Common.{◌≡◌, ◌<◌, ◌≤◌, ◌+◌, ℕ, Bool, true, false, length, List, [], ◌∷◌, ◌++◌, take, drop, Option, Some, None, map, set, get_or, refl, sym, ap, ◌∙◌, arith}
use Rattle.std.specs.Prelude.{◌||◌, slice_get}
use Rattle.std.proofs.lemmas.List.{append-nil, drop_all, drop_more, get_or_at, length-map, length-take, map_more, set-get_or}
use Rattle.rv_hart.specs.declared.hart.Status.TheVariants.{Running}
use Rattle.std.proofs.lemmas.Option.{slice_get-map, slice_get-get_or, get_or_from_slice_get}
use Rattle.std.specs.Prelude.{option_map}
use Rattle.rv_hart.specs.internal.Harts.{HartsAfter, Sees, any_holds, holds}
use Rattle.rv_hart.specs.Step.{seen_by, hart_after}
use Rattle.rv_hart.specs.declared.action.Action.{Action}
use Rattle.rv_hart.specs.declared.hart.Hart.{Hart}
use Rattle.rv_hart.specs.declared.write.Write.{Write}

-- without a write each hart is as it was
pub none_seen : (harts : List Hart) → map (seen_by None) harts ≡ harts
none_seen [] = refl
none_seen (hart ∷ harts) = ap (λ hs. hart ∷ hs) (none_seen harts)

seen_hart : (old : List Hart) (h : ℕ) (w : Option Write) (hart default : Hart) → slice_get old h ≡ Some hart → get_or (map (seen_by w) old) h default ≡ seen_by w hart
seen_hart old h w hart default e =
    get_or_from_slice_get (map (seen_by w) old) h (seen_by w hart) default (slice_get-map (seen_by w) old h ∙ ap (option_map (seen_by w)) e)

pub harts_after : (old : List Hart) (h loaded : ℕ) (action : Action) (w : Option Write) (hart default : Hart) (own : Option ℕ) → slice_get old h ≡ Some hart → own ≡ hart.reservation →
    HartsAfter old (set (map (seen_by w) old) h (hart_after loaded (record (get_or (map (seen_by w) old) h default) { reservation = own }) action)) h loaded action w
harts_after old h loaded action w hart default own e same = rw (e, seen_hart old h w hart default e, same) refl

-- the harts after each but one has seen a write
pub seen_back : (old : List Hart) (h : ℕ) (w : Option Write) (hart default : Hart) (own : Option ℕ) → slice_get old h ≡ Some hart → own ≡ hart.reservation →
    Sees old (set (map (seen_by w) old) h (record (get_or (map (seen_by w) old) h default) { reservation = own })) h w
seen_back old h w hart default own e same = rw (e, seen_hart old h w hart default e, same) refl

pub sees_nothing : (harts : List Hart) (h : ℕ) → h < length harts → Sees harts harts h None
sees_nothing harts h within =
    let default : Hart = record { registers = []; pc = 0; status = Running; reservation = None } in
    rw (slice_get-get_or harts h default within, none_seen harts, set-get_or harts h default) refl

-- ---- whether one holds a reservation, hart by hart

or_none : (b : Bool) → (b || false) ≡ b
or_none true = refl
or_none false = refl

or_assoc : (a b c : Bool) → (a || (b || c)) ≡ ((a || b) || c)
or_assoc true b c = refl
or_assoc false b c = refl

any_snoc : (xs : List Hart) (y : Hart) → any_holds (xs ++ y ∷ []) ≡ (any_holds xs || holds y)
any_snoc [] y = or_none (holds y)
any_snoc (x ∷ xs) y = ap (λ (b : Bool). holds x || b) (any_snoc xs y) ∙ or_assoc (holds x) (any_holds xs) (holds y)

-- in a loop that replaces each hart by f of it
pub held_more : (f : Hart → Hart) (xs ys : List Hart) (i : ℕ) (d : Hart) → i < length xs → ys ≡ map f (take i xs) ++ drop i xs → (any_holds (map f (take i xs)) || holds (f (get_or ys i d))) ≡ any_holds (map f (take (i + 1) xs))
held_more f xs ys i d below so_far =
    let front = map f (take i xs) in
    let long : length front ≡ i = length-map (take i xs) f ∙ omega (arith, length-take i xs) in
    let parts : ys ≡ front ++ get_or xs i d ∷ drop (i + 1) xs = so_far ∙ ap (λ l. front ++ l) (drop_more xs i d below) in
    let read : get_or ys i d ≡ get_or xs i d = ap (λ l. get_or l i d) parts ∙ get_or_at front (get_or xs i d) (drop (i + 1) xs) d i long in
    ap (λ (hart : Hart). any_holds front || holds (f hart)) read ∙ sym (ap any_holds (map_more f xs i d below) ∙ any_snoc front (f (get_or xs i d)))

pub held_all : (f : Hart → Hart) (xs ys : List Hart) (i : ℕ) → length xs ≤ i → ys ≡ map f (take i xs) ++ drop i xs → any_holds (map f (take i xs)) ≡ any_holds ys
held_all f xs ys i all so_far =
    sym (ap any_holds (so_far ∙ ap (λ (l : List Hart). map f (take i xs) ++ l) (drop_all i xs all) ∙ append-nil (map f (take i xs))))
