use Rattle.std.proofs.Common.{◌++◌, List, ap, sym, ◌∙◌}
use Rattle.std.specs.Prelude.{option_and_then}
use Rattle.std.specs.Result.{result_ok}
use Rattle.std.specs.Option.{option_to_list}
use Rattle.std.proofs.lemmas.List.{append-nil}
use Rattle.rv_drive.specs.Draws.{draw}
use Rattle.rv_collide.specs.Forced.{Arm, forced}
use Rattle.rv_collide.specs.Stored.{setting_of}
use Rattle.rv_collide.specs.declared.entry.Entry.{Entry}
use Rattle.rv_sample.specs.Sites.{picked}
use Rattle.rv_drive.proofs.KeptLemmas.{armed_or_not}
use Rattle.rv_drive.proofs.NotingLemmas.{armed_ahead}
use Rattle.rv_drive.proofs.ahead.Ahead.draw.Goals as goal

pub returns-in-Some-clause-driver : goal.returns-in-Some-clause-driver
returns-in-Some-clause-driver c =
    armed_ahead c.open_pauses.ensures c.longer_lists.ensures.stay c.args.self.now c.arm-armed.new.self c.in-Some.site c.arm-armed.result c.arm-armed.ensures.ok c.arm-armed.ensures.refused c.requires.driver

pub returns-in-Some-clause-entries : goal.returns-in-Some-clause-entries
unfolding draw
returns-in-Some-clause-entries c =
    let picks = sym (ap (picked c.args.sampler.now) c.next-word.ensures.word) ∙ sym c.pick.ensures ∙ c.in-Some.is in
    armed_or_not c.args.self.now.collider c.arm-armed.new.self c.in-Some.site c.arm-armed.result c.arm-armed.ensures.ok c.arm-armed.ensures.err c.arm-armed.ensures.refused
    ∙ ap (λ o. record c.args.self.now.collider { entries = c.args.self.now.collider.entries ++ option_to_list (option_and_then (λ site. result_ok (forced (setting_of c.args.self.now.collider) c.args.self.now.collider.entries (Arm site))) o) }) (sym picks)

pub returns-in_default-clause-entries : goal.returns-in_default-clause-entries
unfolding draw
returns-in_default-clause-entries c =
    let picks = sym (ap (picked c.args.sampler.now) c.next-word.ensures.word) ∙ sym c.pick.ensures ∙ c.in_default.is in
    ap (λ (xs : List Entry). record c.args.self.now.collider { entries = xs }) (sym (append-nil c.args.self.now.collider.entries))
    ∙ ap (λ o. record c.args.self.now.collider { entries = c.args.self.now.collider.entries ++ option_to_list (option_and_then (λ site. result_ok (forced (setting_of c.args.self.now.collider) c.args.self.now.collider.entries (Arm site))) o) }) (sym picks)
