use Rattle.std.proofs.lemmas.Result.{err_from_is_err_and}
use Rattle.design_lexer.specs.declared.syntax.class.Class.TheVariants as class
use Rattle.design_lexer.specs.Syntax.Classes.{is}
use Rattle.design_lexer.specs.Syntax.LoopLaws.{goes_on_after, ends_after, is_done}
use Rattle.design_lexer.specs.Syntax.Parts.{none}
use Rattle.design_lexer.specs.Syntax.Reading.{sym_at}
use Rattle.design_lexer.specs.Syntax.Words.{at_end}
use Rattle.design_parser.specs.Grammar.{Param}
use Rattle.design_parser.specs.Readers.{param_at, params_at}
use Rattle.design_parser.proofs.BodyParts.{param_part}
use Rattle.design_parser.proofs.references.params.Goals as goal

pub returns-in_err-param-2 : goal.returns-in_err-param-2
returns-in_err-param-2 c =
    let p = err_from_is_err_and c.from_residual-in_err-param-2.result c.from_residual-in_err-param-2.ensures.1 in
    rw (p.1, p.2) (ends_after at_end none class.Comma Param param_at param_part c.in_err-param-2.field-0.0 c.starts.result c.loop-alloc.params.items c.loop-alloc.lexemes c.skip.new.self (params_at c.args.lexemes.now)
    c.starts.ensures c.loop-alloc-test.true c.skip.ensures c.in_err-param-2.ensures c.loop-alloc.invariant)

pub loop-alloc-preserved : goal.loop-alloc-preserved
loop-alloc-preserved c =
    goes_on_after at_end none class.Comma Param param_at param_part c.starts.result c.loop-alloc.params.items c.push-in-loop-alloc.new.self.items c.loop-alloc.lexemes c.skip.new.self c.param-in-loop-alloc.new.lexemes c.in_ok-param-2.field-0 (params_at c.args.lexemes.now)
    c.starts.ensures c.loop-alloc-test.true c.skip.ensures c.in_ok-param-2.ensures c.in_ok-push-2.ensures.items c.loop-alloc.invariant

pub returns : goal.returns
returns c = rw c.of.ensures (is_done at_end (is class.Comma) (sym_at class.Comma param_at) c.starts.result c.loop-alloc.params.items c.loop-alloc.lexemes (params_at c.args.lexemes.now) c.starts.ensures c.loop-alloc-test.false c.loop-alloc.invariant)
