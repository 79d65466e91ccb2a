use Rattle.std.proofs.lemmas.Result.{IfOk-weaker}
use Rattle.rv_command.specs.Notice.{is_answer}
use Rattle.rv_command.proofs.LineLemmas.{answer_asked, refusal_told}
use Rattle.rv_command.proofs.command.notice_by_clap.Goals as goal

pub returns-in-Err-clause-answer : goal.returns-in-Err-clause-answer
returns-in-Err-clause-answer c =
    IfOk-weaker c.notice_in.result _ _ (λ n told. answer_asked _ c.in-Err.error (is_answer n) c.in-Err.ensures.kinds told.1 told.0) c.notice_in.ensures.notice

pub returns-in-Err-clause-refusal : goal.returns-in-Err-clause-refusal
returns-in-Err-clause-refusal c =
    IfOk-weaker c.notice_in.result _ _ (λ n told. refusal_told _ c.in-Err.error (is_answer n) c.in-Err.ensures.kinds told.1 told.0) c.notice_in.ensures.notice
