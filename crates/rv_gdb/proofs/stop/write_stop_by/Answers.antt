use Rattle.std.proofs.Common.{◌≡◌, List, ℕ, subst}
use Rattle.std.specs.Prelude.{OnOk}
use Rattle.std.specs.Io.KnownBytes.{Appends}
use Rattle.rv_gdb.proofs.TextLemmas.{stop_joined}
use Rattle.rv_gdb.specs.Stops.{thread_text}
use Rattle.rv_remote.specs.Framed.{packet_of}
use Rattle.rv_gdb.proofs.stop.write_stop_by.Goals as goal

pub returns-clause-ok : goal.returns-clause-ok
returns-clause-ok g c =
    let number : c.as_bytes-number.result.now ≡ thread_text c.args.stop.now.hart = cc in
    subst (λ (text : List ℕ). OnOk c.write_packet_of.result (Appends (g.O.Output.written c.args.writer.now) (g.O.Output.written c.write_packet_of.new.writer) (packet_of text)))
    (stop_joined c.args.stop.now c.byte_digits-signal.result c.args.front.now c.args.address.now c.args.end.now c.as_bytes-number.result.now c.byte_digits-signal.ensures c.requires number) c.write_packet_of.ensures.ok
