use Rattle.std.proofs.Common.{◌∙◌}
use Rattle.rv_hunt.proofs.PartedLemmas.{parted_is}
use Rattle.rv_tables.specs.merge.Ignore.{is_ignored, is_told}
use Rattle.rv_hunt.proofs.engine.making.parted_rows.Goals as goal

pub returns-clause-told : goal.returns-clause-told
returns-clause-told c =
    parted_is (λ p. p.told.items) c.part_rows.result is_told _ _ c.args.lists.now.ignored _ _ c.requires (c.deref.ensures.value ∙ c.in_ok-rows.ensures) c.part_rows.ensures.told

pub returns-clause-ignored : goal.returns-clause-ignored
returns-clause-ignored c =
    parted_is (λ p. p.ignored.items) c.part_rows.result is_ignored _ _ c.args.lists.now.ignored _ _ c.requires (c.deref.ensures.value ∙ c.in_ok-rows.ensures) c.part_rows.ensures.ignored
