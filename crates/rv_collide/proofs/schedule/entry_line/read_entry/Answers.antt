use Rattle.rv_collide.proofs.EntryLineLemmas.{short_read}
use Rattle.rv_collide.proofs.schedule.entry_line.read_entry.Goals as goal

pub returns-in-None : goal.returns-in-None
returns-in-None c =
    short_read c.args.format c.args.line.now c.of-words.result c.next_piece.new.self c.next_piece-2.new.self c.in_ok-name.name.now c.in_ok-first.first.now c.read_short.result c.of-words.ensures
    c.in_ok-name.ensures.first c.in_ok-name.ensures.rest c.in_ok-first.ensures.first c.in_ok-first.ensures.rest c.in-None.ensures.first c.read_short.ensures
