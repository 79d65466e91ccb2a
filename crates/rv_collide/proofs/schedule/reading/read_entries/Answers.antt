use Rattle.std.proofs.Common.{◌≡◌, ◌∙◌, ◌∷◌, ◌++◌, [], ap, cond, length}
use Rattle.rv_collide.proofs.EntriesSoFar.{entry_line_is, so_far_next}
use Rattle.rv_collide.proofs.schedule.reading.read_entries.Goals as goal

pub returns-then-is_err-clause-memory : goal.returns-then-is_err-clause-memory
returns-then-is_err-clause-memory c =
    let size : c.len.result ≡ length c.lines.entries.items = c.len.ensures ∙ c.lines.entries.ok.0 in
    λ memory. rw (c.at.ensures, size)
    (entry_line_is c.args.format c.args.text.now c.lines.rest.now c.in-Some.after.now c.args.room c.lines.entries.items c.in-Some.entry c.lines.invariant (rw (c.in-Some.is) at c.in_ok-entry.ensures.line))

pub lines-preserved : goal.lines-preserved
lines-preserved c =
    let size : c.len.result ≡ length c.lines.entries.items = c.len.ensures ∙ c.lines.entries.ok.0 in
    let again : c.len-in-lines.result ≡ length c.lines.entries.items = c.len-in-lines.ensures ∙ c.lines.entries.ok.0 in
    let pushed : c.push.new.self.items ≡ c.lines.entries.items ++ c.in-Some.entry ∷ [] =
    c.push.ensures.items ∙ ap (λ b. cond b (c.lines.entries.items ++ c.in-Some.entry ∷ []) c.lines.entries.items) c.if-is_err.ensures.negation in
    rw pushed
    (so_far_next c.args.format c.args.text.now c.lines.rest.now c.in-Some.after.now c.args.room c.lines.entries.items c.in-Some.entry c.lines.invariant (rw (c.in-Some.is, size, again) at c.in_ok-entry.ensures.more)
    (rw (c.in-Some.is, again) at c.in_ok-entry.ensures.room) (rw (c.in-Some.is) at c.in_ok-entry.ensures.line))
