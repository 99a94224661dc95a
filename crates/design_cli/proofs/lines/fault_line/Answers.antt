use Rattle.std.proofs.Common.{◌∙◌, ◌++◌, codes}
use Rattle.std.proofs.lemmas.Result.{IfOk-weaker}
use Rattle.std.specs.Fmt.{decimal}
use Rattle.design_cli.proofs.LineLemmas.{from_left}
use Rattle.design_cli.proofs.lines.fault_line.Goals as goal

pub returns : goal.returns
returns c =
    let at = decimal c.args.fault.now.at in
    let words = from_left c.as_str.result.now (codes ": ") c.kind_text.result.now (codes " at ") at in
    IfOk-weaker c.format.result _ _ (λ text is. is ∙ words ∙ (λ i. c.as_str.ensures i ++ codes ": " ++ c.kind_text.ensures i ++ codes " at " ++ at)) c.format.ensures.ok
