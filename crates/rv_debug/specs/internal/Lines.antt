-- What a source of lines has, and what taking a line from it does.
use Rattle.std.specs.Prelude.{◌≡◌, ℕ, ◌+◌, ◌<◌, ◌⊎◌, Bool, true, false, if◌then◌else◌, Option, Some, IfSome, List, [], ◌∷◌, ◌++◌, length, take}
use Rattle.std.specs.Io.KnownBytes.{Consumes, IsAtEnd, prepend_known}
use Rattle.rv_text.specs.Lines.{has_line_feed}
use Rattle.rv_debug.specs.declared.lines.TheConstants.{KEPT}
use Rattle.rv_debug.specs.declared.fault.TalkFault.{TalkFault}
use Rattle.rv_debug.specs.declared.fault.TalkFault.TheVariants.{TooLong, Read}

-- The bytes that were read and not taken, how many more the input may have, and whether its end was read.
pub record Source : Type 0 where
  pub pending : List ℕ
  pub left : ℕ
  pub is_over : Bool

-- what is not taken of an input, of which a reader still has the known bytes
abbrev pub rest_of : Source → Option (List ℕ) → Option (List ℕ)
rest_of source known = if source.is_over then Some [] else prepend_known source.pending known

-- all that was read is taken, and that was not the end
abbrev pub HoldsNothing : Source → Type 0
HoldsNothing source = (source.pending ≡ []) × (source.is_over ≡ false)

-- the first bytes of a text, which tell the command of it
abbrev pub kept : List ℕ → List ℕ
kept text = take KEPT text

-- The next line was taken, with its LF; or it was the last and had none.
abbrev pub IsTaken : Source → Source → Option (List ℕ) → Option (List ℕ) → List ℕ → Type 0
IsTaken before after old new text =
    (Consumes old new (text ++ 10 ∷ []) × (before.left ≡ length text + 1 + after.left))
    ⊎ (Consumes old new text × (before.left ≡ length text + after.left) × (0 < length text) × IsAtEnd new × (after.is_over ≡ true))

-- A line was taken of an input, and this is kept of it.
pub record TakesLine (before after : Source) (old new : Option (List ℕ)) (line : List ℕ) : Type 0 where
  pub text : List ℕ
  pub is_kept : line ≡ kept text
  pub plain : has_line_feed text ≡ false
  pub taken : IsTaken before after old new text

-- The input has more bytes than it may have, and no line of it ends before.
pub record IsPassed (before : Source) (old new : Option (List ℕ)) : Type 0 where
  pub text : List ℕ
  pub whole : length text ≡ before.left
  pub plain : has_line_feed text ≡ false
  pub taken : Consumes old new text
  pub more : IfSome new (λ known. 0 < length known)

-- The reader has failed. No line ends in what was read before.
pub record IsHalted (before after : Source) (old new : Option (List ℕ)) : Type 0 where
  pub text : List ℕ
  pub plain : has_line_feed text ≡ false
  pub taken : Consumes old new text
  pub not_over : before.is_over ≡ false
  pub drained : HoldsNothing after

-- why no line is taken
abbrev pub IsUntaken : Source → Source → Option (List ℕ) → Option (List ℕ) → TalkFault → Type 0
IsUntaken before after old new TooLong = IsPassed before old new
IsUntaken before after old new Read = IsHalted before after old new
IsUntaken before after old new _ = ⊥

-- why no byte is taken
abbrev pub IsByteless : Source → Source → Option (List ℕ) → Option (List ℕ) → TalkFault → Type 0
IsByteless before after old new TooLong = (before.left ≡ 0) × Consumes old new [] × IfSome new (λ known. 0 < length known)
IsByteless before after old new Read = HoldsNothing before × HoldsNothing after × Consumes old new []
IsByteless before after old new _ = ⊥
