use Rattle.std.proofs.Common.{refl, sym, ◌∷◌, [], ◌++◌}
use Rattle.std.specs.Prelude.{map}
use Rattle.std.specs.String.{string_bytes}
use Rattle.std.proofs.lemmas.List.Folds.{flat_map-map}
use Rattle.rv_text.specs.Lines.{text_of_lines}
use Rattle.rv_debug.proofs.AnswerLemmas.{lines_shown, no_lines, refused, shown, when_put}
use Rattle.rv_debug.specs.declared.command.Command.TheVariants as said
use Rattle.rv_debug.proofs.answer.show_lines.Goals as goal

pub returns-in-Ok-clause-ok : goal.returns-in-Ok-clause-ok
returns-in-Ok-clause-ok g c =
    let p = c.args.session.now in
    let lines = map (λ line. string_bytes line) c.in-Ok.lines.items in
    let same = sym (flat_map-map (λ line. line ++ 10 ∷ []) (λ line. string_bytes line) c.in-Ok.lines.items) in
    when_put c.put_lines.result (shown p (said.Lines c.args.address c.args.count) (text_of_lines lines) _ _ (lines_shown p c.args.address c.args.count lines c.in-Ok.ensures.ok)) (rw (c.deref.ensures.value, same) at c.put_lines.ensures.ok)

pub returns-in-Err-clause-ok : goal.returns-in-Err-clause-ok
returns-in-Err-clause-ok g c =
    let p = c.args.session.now in
    when_put c.put_fault.result (refused p p (said.Lines c.args.address c.args.count) c.in-Err.fault _ _ (no_lines p c.args.address c.args.count c.in-Err.fault c.in-Err.ensures.err) refl) c.put_fault.ensures.ok
