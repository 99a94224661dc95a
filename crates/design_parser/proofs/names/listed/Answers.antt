use Rattle.std.proofs.lemmas.Result.{err_from_is_err_and}
use Rattle.design_lexer.specs.Syntax.Classes.{is}
use Rattle.design_lexer.specs.Syntax.LoopLaws.{goes_on_after, ends_after, is_done}
use Rattle.design_lexer.specs.Syntax.Parts.{none}
use Rattle.design_lexer.specs.Syntax.Reading.{listed_at, sym_at}
use Rattle.design_lexer.specs.Syntax.Spelled.{name_at}
use Rattle.design_lexer.specs.Syntax.Words.{at_end}
use Rattle.design_parser.specs.Grammar.{Name}
use Rattle.design_parser.proofs.NameParts.{name_part}
use Rattle.design_parser.proofs.names.listed.Goals as goal

pub returns-in_err-name-2 : goal.returns-in_err-name-2
returns-in_err-name-2 c =
    let p = err_from_is_err_and c.from_residual-in_err-name-2.result c.from_residual-in_err-name-2.ensures.1 in
    rw (p.1, p.2) (ends_after at_end none c.args.separator Name name_at name_part c.in_err-name-2.field-0.0 c.starts.result c.loop-alloc.names.items c.loop-alloc.lexemes c.skip.new.self (listed_at c.args.separator name_at c.args.lexemes.now)
    c.starts.ensures c.loop-alloc-test.true c.skip.ensures c.in_err-name-2.ensures c.loop-alloc.invariant)

pub loop-alloc-preserved : goal.loop-alloc-preserved
loop-alloc-preserved c =
    goes_on_after at_end none c.args.separator Name name_at name_part c.starts.result c.loop-alloc.names.items c.push-in-loop-alloc.new.self.items c.loop-alloc.lexemes c.skip.new.self c.name-in-loop-alloc.new.self c.in_ok-name-2.field-0 (listed_at c.args.separator name_at c.args.lexemes.now)
    c.starts.ensures c.loop-alloc-test.true c.skip.ensures c.in_ok-name-2.ensures c.in_ok-push-2.ensures.items c.loop-alloc.invariant

pub returns : goal.returns
returns c = is_done at_end (is c.args.separator) (sym_at c.args.separator name_at) c.starts.result c.loop-alloc.names.items c.loop-alloc.lexemes (listed_at c.args.separator name_at c.args.lexemes.now) c.starts.ensures c.loop-alloc-test.false c.loop-alloc.invariant
