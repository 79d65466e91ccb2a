-- The text of an answer.
use Rattle.std.specs.Prelude.{ℕ, List}
use Rattle.rv_gdb.specs.Sheet.{bytes}
use Rattle.rv_gdb.specs.Stops.{stop_text}
use Rattle.rv_stub.specs.declared.reply.Reply.{Reply}
use Rattle.rv_stub.specs.declared.reply.Reply.TheVariants.{Constant, Stopped, Gathered}

abbrev pub reply_text : Reply → List ℕ
reply_text (Constant text) = text.now
reply_text (Stopped stop) = stop_text stop
reply_text (Gathered sheet) = bytes sheet
