-- What is written at each byte that is read.
use Rattle.std.specs.Prelude.{◌≡◌, ℕ, ◌&&◌, Bool, true, false, nat_le, not, MatchBool, if◌then◌else◌, Option, Some, None, option_and_then, List, [], ◌++◌, codes, length}
use Rattle.std.specs.Option.{option_map_or}
use Rattle.rv_debug.specs.Placed.{Placed}
use Rattle.rv_remote.specs.Framed.{packet_of}
use Rattle.rv_remote.specs.Framing.{Reading, heard, next, silence}
use Rattle.rv_gdb.specs.Packet.{request_of}
use Rattle.rv_remote.specs.declared.framing.Heard.{Heard}
use Rattle.rv_remote.specs.declared.framing.Heard.TheVariants.{Nothing, Again, Packet}
use Rattle.rv_remote.specs.declared.framing.TheConstants.{MOST_BYTES}
use Rattle.rv_gdb.specs.declared.packet.Request.{Request}
use Rattle.rv_gdb.specs.declared.packet.Request.TheVariants as asks
use Rattle.rv_stub.specs.Answers.{Answer, IsAnswer}
use Rattle.rv_stub.specs.Standing.{Standing, at_first}

-- A talk between two bytes: how it stands, what was read of a packet, whether packets are acknowledged, the data of the
-- last packet that was written, and whether the talk is over.
pub record Conversation : Type 0 where
  pub standing : Standing
  pub reading : Reading
  pub acknowledges : Bool
  pub last : Option (List ℕ)
  pub is_over : Bool

-- before the first byte
abbrev pub opening : Placed → Conversation
opening run = record { standing = at_first run; reading = silence; acknowledges = true; last = None; is_over = false }

-- what is written, and how the talk goes on
pub record Turn : Type 0 where
  pub written : List ℕ
  pub after : Conversation

abbrev pub writes : Conversation → List ℕ → Turn
writes c text = record { written = text; after = c }

-- at a `-` the last packet is written again, if there is one and packets are acknowledged
abbrev pub again : Conversation → List ℕ
again c = if c.acknowledges then option_map_or packet_of c.last [] else []

-- what a packet asks; none where it is malformed, or has too many bytes
abbrev pub within : List ℕ → Option Request
within text = if nat_le (length text) MOST_BYTES then request_of text else None

abbrev pub requested : Reading → Option Request
requested reading = option_and_then within reading.bytes

-- no more acknowledgments are written after the answer
abbrev pub starts_no_ack : Option Request → Bool
starts_no_ack (Some asks.StartNoAck) = true
starts_no_ack (Some request) = false
starts_no_ack None = false

-- the talk ends with the answer
abbrev pub detaches : Option Request → Bool
detaches (Some asks.Detach) = true
detaches (Some request) = false
detaches None = false

-- the talk ends, and there is no answer
abbrev pub kills : Option Request → Bool
kills (Some asks.Kill) = true
kills (Some request) = false
kills None = false

-- a packet is acknowledged, where packets are
abbrev pub acknowledgment : Conversation → List ℕ
acknowledgment c = if c.acknowledges then codes "+" else []

-- it is answered
abbrev pub answering : Conversation → Option Request → Answer → Turn
answering c request answer = record {
  written = packet_of answer.text;
  after = record c {
    standing = answer.after;
    acknowledges = c.acknowledges && not (starts_no_ack request);
    last = Some answer.text;
    is_over = detaches request;
  };
}

-- the talk ends without an answer
abbrev pub ending : Conversation → Turn
ending c = writes (record c { is_over = true }) []

-- a packet is answered by the turn
pub record IsAnswering (c : Conversation) (request : Option Request) (turn : Turn) : Type 0 where
  pub answer : Answer
  pub is_answer : IsAnswer c.standing request answer
  pub is_turn : turn ≡ answering c request answer

abbrev pub IsTaken : Conversation → Option Request → Turn → Type 0
IsTaken c request turn = MatchBool (kills request) (turn ≡ ending c) (IsAnswering c request turn)

-- it is acknowledged before
pub record IsAcknowledged (c : Conversation) (turn : Turn) : Type 0 where
  pub taken : Turn
  pub is_taken : IsTaken c (requested c.reading) taken
  pub is_turn : turn ≡ record { written = acknowledgment c ++ taken.written; after = taken.after }

-- A packet was read. One of another sum is not taken, where packets are acknowledged; else its sum is not looked at.
abbrev pub IsTold : Conversation → Heard → Turn → Type 0
IsTold c Nothing turn = turn ≡ writes c []
IsTold c Again turn = turn ≡ writes c (again c)
IsTold c (Packet right) turn =
    MatchBool (c.acknowledges && not right) (turn ≡ writes c (codes "-")) (IsAcknowledged c turn)

-- the talk after one byte more was read, before anything is made of it
abbrev pub with_byte : Conversation → ℕ → Conversation
with_byte c byte = record c { reading = next c.reading byte }

-- One byte more. Where the talk is over it is dropped.
abbrev pub IsTurn : Conversation → ℕ → Turn → Type 0
IsTurn c byte turn = MatchBool c.is_over (turn ≡ writes c []) (IsTold (with_byte c byte) (heard c.reading byte) turn)

-- a talk goes on by a turn, whose text is written
pub record Turns (IsOne : Turn → Type 0) (after : Conversation) (Writes : List ℕ → Type 0) : Type 0 where
  pub turn : Turn
  pub is_one : IsOne turn
  pub goes_on : after ≡ turn.after
  pub written : Writes turn.written
