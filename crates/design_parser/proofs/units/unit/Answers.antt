use Rattle.std.proofs.Common.{[], ◌∷◌}
use Rattle.std.proofs.lemmas.Result.{err_from_is_err_and}
use Rattle.design_lexer.specs.declared.syntax.class.Class.TheVariants as class
use Rattle.design_lexer.specs.Syntax.Classes.{one_of}
use Rattle.design_lexer.specs.Syntax.LoopLaws.{goes_on, ends, is_done, smaller}
use Rattle.design_lexer.specs.Syntax.Words.{at_end}
use Rattle.design_parser.specs.Grammar.{FurtherFactor}
use Rattle.design_parser.specs.Readers.{further_factor_at, unit_at, joints}
use Rattle.design_parser.proofs.NameParts.{further_item}
use Rattle.design_parser.proofs.units.unit.Goals as goal

pub returns-in_err-further_factor : goal.returns-in_err-further_factor
returns-in_err-further_factor c =
    let p = err_from_is_err_and c.from_residual-in_err-further_factor.result c.from_residual-in_err-further_factor.ensures.1 in
    rw (p.1, p.2) (ends at_end (one_of (class.Caret ∷ [])) (one_of joints) FurtherFactor further_factor_at further_item c.in_err-further_factor.field-0.0 c.starts_any.result c.loop-alloc.factors.items c.loop-alloc.lexemes (unit_at c.args.lexemes.now)
    c.starts_any.ensures c.loop-alloc-test.true c.in_err-further_factor.ensures c.loop-alloc.invariant)

pub loop-alloc-smaller : goal.loop-alloc-smaller
loop-alloc-smaller c = smaller (one_of (class.Caret ∷ [])) (one_of joints) FurtherFactor further_factor_at further_item c.starts_any.result c.loop-alloc.lexemes c.further_factor.new.lexemes c.in_ok-further_factor.field-0 c.starts_any.ensures c.loop-alloc-test.true c.in_ok-further_factor.ensures

pub loop-alloc-preserved : goal.loop-alloc-preserved
loop-alloc-preserved c =
    goes_on at_end (one_of (class.Caret ∷ [])) (one_of joints) FurtherFactor further_factor_at further_item c.starts_any.result c.loop-alloc.factors.items c.push-in-loop-alloc.new.self.items c.loop-alloc.lexemes c.further_factor.new.lexemes c.in_ok-further_factor.field-0 (unit_at c.args.lexemes.now)
    c.starts_any.ensures c.loop-alloc-test.true c.in_ok-further_factor.ensures c.in_ok-push-2.ensures.items c.loop-alloc.invariant

pub returns : goal.returns
returns c = rw (c.of.ensures, c.shrink_to_fit.ensures.items) (is_done at_end (one_of joints) further_factor_at c.starts_any.result c.loop-alloc.factors.items c.loop-alloc.lexemes (unit_at c.args.lexemes.now) c.starts_any.ensures c.loop-alloc-test.false c.loop-alloc.invariant)
