use Rattle.std.proofs.Common.{◌∙◌, ap, codes, sym}
use Rattle.std.proofs.lemmas.Result.{IfOk-weaker}
use Rattle.std.specs.Fmt.{decimal}
use Rattle.design_cli.proofs.LineLemmas.{from_left}
use Rattle.design_cli.specs.Lines.{query_line}
use Rattle.design_cli.proofs.lines.query_line.Goals as goal

pub returns-in-Width : goal.returns-in-Width
returns-in-Width c =
    let words = from_left (codes "query: ") (decimal c.in-Width.found) (codes " values for ") (decimal c.in-Width.wanted) (codes " ports") in
    IfOk-weaker c.format.result _ _ (λ text is. is ∙ words ∙ sym (ap query_line c.in-Width.is)) c.format.ensures.ok

pub returns-in-TupleWidth : goal.returns-in-TupleWidth
returns-in-TupleWidth c =
    let words = from_left (codes "tuple: ") (decimal c.in-TupleWidth.found) (codes " values for ") (decimal c.in-TupleWidth.wanted) (codes " ports") in
    IfOk-weaker c.format-in-TupleWidth.result _ _ (λ text is. is ∙ words ∙ sym (ap query_line c.in-TupleWidth.is)) c.format-in-TupleWidth.ensures.ok
