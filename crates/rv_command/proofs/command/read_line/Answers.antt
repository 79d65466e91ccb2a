use Rattle.std.proofs.Common.{◌∙◌, ap, subst, map}
use Rattle.std.proofs.lemmas.Result.{IfOk-weaker}
use Rattle.clap.specs.Faults.{fault_of, is_simple_and_free}
use Rattle.clap.specs.Kinds.{FailsBy}
use Rattle.clap.specs.Simple.{App, is_simple, subcommand_of}
use Rattle.rv_command.proofs.LineLemmas.{is_exact, is_simple_program}
use Rattle.rv_command.proofs.command.read_line.Goals as goal

pub returns-clause-kinds : goal.returns-clause-kinds
returns-clause-kinds c =
    let parse = c.try_get_matches_from in
    subst (λ (a : App). FailsBy (fault_of a (map (λ w. w.now) c.args.words.now)) parse.result) c.in_ok-program.ensures
    (parse.ensures.kinds (ap is_simple_and_free c.in_ok-program.ensures ∙ is_exact))

pub returns-clause-rows : goal.returns-clause-rows
returns-clause-rows c =
    let parse = c.try_get_matches_from in
    IfOk-weaker parse.result _ _ (λ m h. (h (ap is_simple c.in_ok-program.ensures ∙ is_simple_program)).1
    ∙ ap (λ (a : App). subcommand_of a (map (λ w. w.now) c.args.words.now)) c.in_ok-program.ensures) parse.ensures.matches
