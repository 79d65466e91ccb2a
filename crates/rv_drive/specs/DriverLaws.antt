-- What follows of the rules of drivers and of a seeded run, in a user's words.
use Rattle.std.specs.Prelude.{◌≡◌, ℕ, ◌+◌, ◌<◌, ◌≤◌, ◌==◌, true, is_ok, Ok, ◌⊎◌, Bool, false, not, Option, Some, None, if◌then◌else◌, List, [], ◌∷◌, ◌++◌, length, slice_get, take}
use Rattle.std.specs.Option.{option_map_or}
use Rattle.rv_drive.specs.Able.{IsLong, HasEnded, due, is_able, others_steps}
use Rattle.rv_drive.specs.Drawn.{IsDrawn, turns_and_resumptions}
use Rattle.rv_drive.specs.Draws.{Sampling, IsArmedByDraws, draw, draws, first_draws, is_resumed, next_index, owed}
use Rattle.rv_collide.specs.Entries.{stepped_hart}
use Rattle.rv_collide.specs.Forced.{Setting, Call, Resume, Turn, forced}
use Rattle.rv_collide.specs.Legal.{IsLegal, call_of}
use Rattle.rv_collide.specs.Pause.{Opening, opening_of}
use Rattle.rv_collide.specs.declared.entry.Entry.{Entry}
use Rattle.rv_collide.specs.declared.entry.Entry.TheVariants.{Armed, Paused, Resumed}

-- An image, a plan, words and sites make one run at most.
abbrev pub OneRunAtMost : Type 0
OneRunAtMost =
    (setting : Setting) (sampling : Sampling) (one other : List Entry) → IsDrawn setting sampling one → IsDrawn setting sampling other → one ≡ other

-- It is legal: each entry is what its call is forced to add.
abbrev pub DrawnIsLegal : Type 0
DrawnIsLegal = (setting : Setting) (sampling : Sampling) (entries : List Entry) → IsDrawn setting sampling entries → IsLegal setting entries

-- No pause ends before it is due.
abbrev pub DrawnIsLong : Type 0
DrawnIsLong = (setting : Setting) (sampling : Sampling) (entries : List Entry) → IsDrawn setting sampling entries → IsLong setting entries

-- Its draws alone arm addresses.
abbrev pub DrawnIsArmedByDraws : Type 0
DrawnIsArmedByDraws =
    (setting : Setting) (sampling : Sampling) (entries : List Entry) → IsDrawn setting sampling entries → IsArmedByDraws setting sampling turns_and_resumptions entries

-- It goes on until nothing is open and no hart is able.
abbrev pub DrawnHasEnded : Type 0
DrawnHasEnded = (setting : Setting) (sampling : Sampling) (entries : List Entry) → IsDrawn setting sampling entries → HasEnded setting entries

-- the entry is a step of a hart other than this one
abbrev pub is_others_step : ℕ → Entry → Bool
is_others_step hart entry = option_map_or (λ other. not (other == hart)) (stepped_hart entry) false

-- The pause was open before the entry, which counts where it is another hart's step.
pub record GoesOn (entries : List Entry) (entry : Entry) (hart : ℕ) (opening : Opening) : Type 0 where
  pub was_open : opening_of entries hart ≡ Some opening
  pub steps : others_steps (entries ++ entry ∷ []) opening ≡ others_steps entries opening + (if is_others_step hart entry then 1 else 0)

-- The entry has begun the pause.
pub record Begins (entries : List Entry) (entry : Entry) (hart : ℕ) (opening : Opening) : Type 0 where
  pub slot : Option ℕ
  pub pauses : entry ≡ Paused hart slot
  pub steps : others_steps (entries ++ entry ∷ []) opening ≡ 0

-- After an entry each open pause is one that was open before, or the one that the entry has begun.
abbrev pub PausesGoOn : Type 0
PausesGoOn =
    (entries : List Entry) (entry : Entry) (hart : ℕ) (opening : Opening) → opening_of (entries ++ entry ∷ []) hart ≡ Some opening → GoesOn entries entry hart opening ⊎ Begins entries entry hart opening

-- What a call adds is an entry of its own kind.
abbrev pub AddsItsKind : Type 0
AddsItsKind = (setting : Setting) (entries : List Entry) (call : Call) (entry : Entry) → forced setting entries call ≡ Ok entry → call_of entry ≡ call

-- A pause that is due may be ended.
abbrev pub DueIsResumed : Type 0
DueIsResumed = (setting : Setting) (entries : List Entry) (hart : ℕ) → due setting entries ≡ Some hart → forced setting entries (Resume hart) ≡ Ok (Resumed hart)

-- An able hart may take a turn.
abbrev pub AbleTakesTurn : Type 0
AbleTakesTurn = (setting : Setting) (entries : List Entry) (hart : ℕ) → is_able setting entries hart ≡ true → hart < setting.plan.harts → is_ok (forced setting entries (Turn hart)) ≡ true

-- Where nothing is owed, the first draws stand in the list.
abbrev pub PaidIsPastFirst : Type 0
PaidIsPastFirst =
    (setting : Setting) (sampling : Sampling) (takes : Entry → Bool) (entries : List Entry) → owed setting sampling takes entries ≡ None → length (draws setting sampling first_draws) ≤ length entries

-- Once they do, what is owed after one more entry is the draw that a resumption asks for, by the word after those
-- that the entries before it took; after any other entry nothing is.
abbrev pub OwedAfterOneMore : Type 0
OwedAfterOneMore =
    (setting : Setting) (sampling : Sampling) (takes : Entry → Bool) (entries : List Entry) (entry : Entry) → length (draws setting sampling first_draws) ≤ length entries → owed setting sampling takes (entries ++ entry ∷ []) ≡ (if is_resumed entry then draw setting sampling (entries ++ entry ∷ []) (next_index takes entries) else None)

-- An entry that takes a word moves the next word's index on by one.
abbrev pub IndexGoesOn : Type 0
IndexGoesOn =
    (takes : Entry → Bool) (entries : List Entry) (entry : Entry) → next_index takes (entries ++ entry ∷ []) ≡ next_index takes entries + (if takes entry then 1 else 0)

-- What a draw adds arms an address.
abbrev pub DrawsArm : Type 0
DrawsArm =
    (setting : Setting) (sampling : Sampling) (entries : List Entry) (index : ℕ) (entry : Entry) → draw setting sampling entries index ≡ Some entry → (address : ℕ) × (entry ≡ Armed address)

-- Each entry of the first draws arms an address, and is what is owed at its place.
abbrev pub FirstDrawsAreOwed : Type 0
FirstDrawsAreOwed =
    (setting : Setting) (sampling : Sampling) (takes : Entry → Bool) (place : ℕ) → place < length (draws setting sampling first_draws) → (address : ℕ) × (slice_get (draws setting sampling first_draws) place ≡ Some (Armed address)) × (owed setting sampling takes (take place (draws setting sampling first_draws)) ≡ Some (Armed address))

-- Once they are made nothing is owed. Where what they add takes no word of its own, the next word is the one after theirs.
abbrev pub FirstDrawsArePaid : Type 0
FirstDrawsArePaid =
    (setting : Setting) (sampling : Sampling) (takes : Entry → Bool) → ((address : ℕ) → takes (Armed address) ≡ false) → (owed setting sampling takes (draws setting sampling first_draws) ≡ None) × (next_index takes (draws setting sampling first_draws) ≡ first_draws)

-- These together: what the draws owe, at first and after one more entry.
pub record DrawsGoOn : Type 0 where
  pub arm : DrawsArm
  pub first : FirstDrawsAreOwed
  pub paid : FirstDrawsArePaid
  pub past : PaidIsPastFirst
  pub owed : OwedAfterOneMore
  pub index : IndexGoesOn
