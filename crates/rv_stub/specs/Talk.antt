-- What is written of an input of packets, byte by byte.
use Rattle.std.specs.Prelude.{◌≡◌, ℕ, ◌<◌, ◌&&◌, ⊤, false, not, Option, Some, List, [], ◌∷◌, ◌++◌, length, take}
use Rattle.std.specs.Io.KnownBytes.{Consumes}
use Rattle.rv_debug.specs.declared.fault.TalkFault.{TalkFault}
use Rattle.rv_debug.specs.declared.fault.TalkFault.TheVariants.{TooLong, Read, Write}
use Rattle.rv_memory.specs.declared.flagged.TheConstants.{INPUT_LIMIT}
use Rattle.rv_stub.specs.Heard.{Conversation, IsTurn, Turn}

-- The bytes are told to the talk one after another; this is written meanwhile, and so it stands at their end.
abbrev pub Talks : Conversation → List ℕ → List ℕ → Conversation → Type 0
Talks c [] text end = (text ≡ []) × (end ≡ c)
Talks c (byte ∷ bytes) text end =
    (turn : Turn) × ((rest : List ℕ) × (IsTurn c byte turn × Talks turn.after bytes rest end × (text ≡ turn.written ++ rest)))

-- the talk over some bytes, which writes so and leaves it so
pub record IsTalk (c : Conversation) (bytes : List ℕ) (end : Conversation) (Writes : List ℕ → Type 0) : Type 0 where
  pub text : List ℕ
  pub talks : Talks c bytes text end
  pub written : Writes text

-- the talk over a whole input
pub record IsWhole (c : Conversation) (input : List ℕ) (Writes : List ℕ → Type 0) : Type 0 where
  pub end : Conversation
  pub talk : IsTalk c input end Writes

-- The input is too long: its bytes within the limit are answered, and none of them ends the talk.
pub record IsCutOff (c : Conversation) (input : List ℕ) (Writes : List ℕ → Type 0) : Type 0 where
  pub long : INPUT_LIMIT < length input
  pub end : Conversation
  pub talk : IsTalk c (take INPUT_LIMIT input) end Writes
  pub goes_on : end.is_over ≡ false

-- The reader fails, and these bytes were read before. Where one of them ends the talk, its answer is still to be acknowledged.
pub record IsBroken (c : Conversation) (input : List ℕ) (rest : Option (List ℕ)) (Writes : List ℕ → Type 0) : Type 0 where
  pub read : List ℕ
  pub is_read : Consumes (Some input) rest read
  pub end : Conversation
  pub talk : IsTalk c read end Writes
  pub is_heard : (end.is_over && not end.acknowledges) ≡ false

-- why the talk over an input stops before its end, and what is written then
abbrev pub IsStopped : Conversation → List ℕ → Option (List ℕ) → (List ℕ → Type 0) → TalkFault → Type 0
IsStopped c input rest Writes TooLong = IsCutOff c input Writes
IsStopped c input rest Writes Read = IsBroken c input rest Writes
IsStopped c input rest Writes Write = ⊤
