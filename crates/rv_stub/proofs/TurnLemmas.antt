-- What one byte makes of a talk.
use Rattle.std.proofs.Common.{◌≡◌, ℕ, Bool, true, false, List, [], ◌++◌, Option, refl, sym, subst}
use Rattle.std.specs.Prelude.{◌&&◌, MatchBool, codes, if◌then◌else◌, not}
use Rattle.std.specs.Io.KnownBytes.{Appends}
use Rattle.std.proofs.KnownBytes.{Appends-nil, Appends-trans}
use Rattle.rv_remote.specs.Framed.{packet_of}
use Rattle.rv_remote.specs.Framing.{heard}
use Rattle.rv_remote.specs.declared.framing.Heard.{Heard}
use Rattle.rv_remote.specs.declared.framing.Heard.TheVariants.{Again, Nothing, Packet}
use Rattle.rv_gdb.specs.declared.packet.Request.{Request}
use Rattle.rv_stub.specs.Answers.{Answer, IsAnswer}
use Rattle.rv_stub.specs.Heard.{Conversation, IsAcknowledged, IsTaken, IsTold, IsTurn, Turn, Turns, again, answering, ending, kills, requested, with_byte, writes}

pub silent : (IsOne : Turn → Type 0) (c : Conversation) (a : Option (List ℕ)) → IsOne (writes c []) → Turns IsOne c (Appends a a)
silent IsOne c a is = record { turn = writes c []; is_one = is; goes_on = refl; written = Appends-nil a }

match_true : (P Q : Type 0) (b : Bool) → b ≡ true → P → MatchBool b P Q
match_true P Q true is holds = holds
match_true P Q false is holds = cc

match_false : (P Q : Type 0) (b : Bool) → b ≡ false → Q → MatchBool b P Q
match_false P Q false is holds = holds
match_false P Q true is holds = cc

pub killed : (c after : Conversation) (request asks : Option Request) (a : Option (List ℕ)) → request ≡ asks → kills request ≡ true → after ≡ record c { is_over = true } → Turns (IsTaken c asks) after (Appends a a)
killed c after request asks a same kills_it is =
    let one : IsTaken c request (ending c) = match_true _ _ (kills request) kills_it refl in
    subst (λ (r : Option Request). Turns (IsTaken c r) after (Appends a a)) same (record { turn = ending c; is_one = one; goes_on = is; written = Appends-nil a })

pub replied : (c after : Conversation) (request asks : Option Request) (answer : Answer) (a b : Option (List ℕ)) → request ≡ asks → kills request ≡ false → IsAnswer c.standing request answer → after ≡ (answering c request answer).after
    → Appends a b (packet_of answer.text) → Turns (IsTaken c asks) after (Appends a b)
replied c after request asks answer a b same stays is_answer is written =
    let one : IsTaken c request (answering c request answer) = match_false _ _ (kills request) stays (record { answer = answer; is_answer = is_answer; is_turn = refl }) in
    subst (λ (r : Option Request). Turns (IsTaken c r) after (Appends a b)) same (record { turn = answering c request answer; is_one = one; goes_on = is; written = written })

pub refused : (c : Conversation) (right : Bool) (a b : Option (List ℕ)) → c.acknowledges ≡ true → right ≡ false → Appends a b (if right then codes "+" else codes "-") → Turns (IsTold c (Packet right)) c (Appends a b)
refused c right a b ack wrong written =
    let one : IsTold c (Packet right) (writes c (codes "-")) = rw (ack, wrong) refl in
    record { turn = writes c (codes "-"); is_one = one; goes_on = refl; written = subst (λ (is : Bool). Appends a b (if is then codes "+" else codes "-")) wrong written }

pub acknowledged : (c after : Conversation) (right : Bool) (a b d : Option (List ℕ)) → c.acknowledges ≡ true → right ≡ true → Appends a b (if right then codes "+" else codes "-") → Turns (IsTaken c (requested c.reading)) after (Appends b d)
    → Turns (IsTold c (Packet right)) after (Appends a d)
acknowledged c after right a b d ack well put taken =
    let text = codes "+" ++ taken.turn.written in
    let turn : Turn = record { written = text; after = taken.turn.after } in
    let is_one : IsAcknowledged c turn = record { taken = taken.turn; is_taken = taken.is_one; is_turn = rw ack refl } in
    let test : (c.acknowledges && not right) ≡ false = rw (ack, well) refl in
    record {
      turn = turn;
      is_one = match_false _ _ (c.acknowledges && not right) test is_one;
      goes_on = taken.goes_on;
      written = Appends-trans a b d (codes "+") taken.turn.written (subst (λ (is : Bool). Appends a b (if is then codes "+" else codes "-")) well put) taken.written;
    }

pub unacknowledged : (c after : Conversation) (right : Bool) (a b : Option (List ℕ)) → c.acknowledges ≡ false → Turns (IsTaken c (requested c.reading)) after (Appends a b) → Turns (IsTold c (Packet right)) after (Appends a b)
unacknowledged c after right a b quiet taken =
    let is_one : IsAcknowledged c taken.turn = record { taken = taken.turn; is_taken = taken.is_one; is_turn = rw quiet refl } in
    let test : (c.acknowledges && not right) ≡ false = rw quiet refl in
    record { turn = taken.turn; is_one = match_false _ _ (c.acknowledges && not right) test is_one; goes_on = taken.goes_on; written = taken.written }

pub told_nothing : (c : Conversation) (told : Heard) (a : Option (List ℕ)) → told ≡ Nothing → Turns (IsTold c told) c (Appends a a)
told_nothing c told a is = subst (λ (h : Heard). Turns (IsTold c h) c (Appends a a)) (sym is) (silent (IsTold c Nothing) c a refl)

pub told_again : (c : Conversation) (told : Heard) (a b : Option (List ℕ)) → told ≡ Again → Appends a b (again c) → Turns (IsTold c told) c (Appends a b)
told_again c told a b is written =
    subst (λ (h : Heard). Turns (IsTold c h) c (Appends a b)) (sym is) (record { turn = writes c (again c); is_one = refl; goes_on = refl; written = written })

pub dropped : (c : Conversation) (byte : ℕ) (a : Option (List ℕ)) → c.is_over ≡ true → Turns (IsTurn c byte) c (Appends a a)
dropped c byte a over = silent (IsTurn c byte) c a (match_true _ _ c.is_over over refl)

pub taken_in : (c next after : Conversation) (byte : ℕ) (told : Heard) (a b : Option (List ℕ)) → c.is_over ≡ false → next ≡ with_byte c byte → told ≡ heard c.reading byte → Turns (IsTold next told) after (Appends a b)
    → Turns (IsTurn c byte) after (Appends a b)
taken_in c next after byte told a b runs is hears turned =
    let is_told : IsTold (with_byte c byte) (heard c.reading byte) turned.turn =
    subst (λ (h : Heard). IsTold (with_byte c byte) h turned.turn) hears (subst (λ (n : Conversation). IsTold n told turned.turn) is turned.is_one) in
    record { turn = turned.turn; is_one = match_false _ _ c.is_over runs is_told; goes_on = turned.goes_on; written = turned.written }
