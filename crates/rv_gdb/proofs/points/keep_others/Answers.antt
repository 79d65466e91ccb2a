use Rattle.std.proofs.Common.{rules}
use Rattle.std.proofs.lemmas.Fn.{filter_same}
use Rattle.std.specs.Prelude.{not}
use Rattle.rv_gdb.specs.Points.{is_same}
use Rattle.rv_gdb.proofs.points.keep_others.Goals as goal

pub returns-clause-items : goal.returns-clause-items
returns-clause-items c = filter_same _ (λ other. not (is_same c.args.point other)) _ (λ x b f' k. search rules) _ _ c.retain.ensures.filtered
