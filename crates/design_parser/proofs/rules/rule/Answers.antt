use Rattle.std.proofs.Common.{◌≡◌, ◌-◌, length, Some, Err, sym, ap, ◌∙◌, arith}
use Rattle.std.proofs.lemmas.List.{length-take}
use Rattle.std.specs.Result.{result_err}
use Rattle.design_lexer.specs.declared.syntax.fault.ReadFault.TheVariants as fault
use Rattle.design_lexer.specs.Syntax.FaultLaws.{left_within}
use Rattle.design_lexer.specs.Syntax.GivesLaws.{fault_given}
use Rattle.design_lexer.specs.Syntax.Parts.{none}
use Rattle.design_parser.specs.Grammar.{RuleOf}
use Rattle.design_parser.specs.Readers.{whole_rule_at}
use Rattle.design_parser.proofs.ExprParts.{whole_rule_part}
use Rattle.design_parser.proofs.rules.rule.Goals as goal

pub overflow_add-result : goal.overflow_add-result
overflow_add-result c =
    let told : result_err c.whole_rule-2.result ≡ Some (fault.Left c.in-Some-Left.left) = sym c.err.ensures.value ∙ c.in-Some-Left.is ∙ ap (λ z. Some z) c.in-Some-Left.field-0-is in
    let read : whole_rule_at c.without_last-front.result ≡ Err c.in-Some-Left.left = fault_given _ _ _ _ c.whole_rule-2.ensures told in
    omega (arith, left_within none RuleOf whole_rule_at whole_rule_part c.without_last-front.result c.in-Some-Left.left (ap (λ z. z) read), ap length c.without_last-front.ensures, length-take (length c.args.lexemes.now - c.over-beyond.result) c.args.lexemes.now, c.over-beyond.ensures.within, c.over-beyond.ensures.fits)
