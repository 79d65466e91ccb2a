use Rattle.std.proofs.Common.{ap, sym, ◌∙◌}
use Rattle.rv_tables.specs.internal.Sought.{lines_in}
use Rattle.rv_tables.specs.merge.Ignore.{naming_of}
use Rattle.rv_tables.proofs.SoughtLemmas.{unknown_ok}
use Rattle.rv_tables.proofs.merge.ignore.Ignores.unknown.Goals as goal

pub returns : goal.returns
returns c = unknown_ok c.unknown_in.result (naming_of c.args.image.now c.args.source.now) c.deref.result.now c.args.self.now (sym c.self.view_is ∙ ap lines_in (sym c.deref.ensures.value)) c.unknown_in.ensures
