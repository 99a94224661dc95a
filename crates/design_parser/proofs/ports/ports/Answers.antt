use Rattle.std.proofs.lemmas.Result.{err_from_is_err_and}
use Rattle.design_lexer.specs.Syntax.Classes.{one_of}
use Rattle.design_lexer.specs.Syntax.LoopLaws.{goes_on, ends, is_done, smaller}
use Rattle.design_lexer.specs.Syntax.Parts.{none}
use Rattle.design_lexer.specs.Syntax.Words.{at_end}
use Rattle.design_parser.specs.Grammar.{Port}
use Rattle.design_parser.specs.Readers.{port_at, ports_at, sides}
use Rattle.design_parser.proofs.ValueParts.{port_item}
use Rattle.design_parser.proofs.ports.ports.Goals as goal

pub returns-in_err-port : goal.returns-in_err-port
returns-in_err-port c =
    let p = err_from_is_err_and c.from_residual.result c.from_residual.ensures.1 in
    rw (p.1, p.2) (ends at_end none (one_of sides) Port port_at port_item c.in_err-port.field-0.0 c.starts_any.result c.loop-alloc.ports.items c.loop-alloc.lexemes (ports_at c.args.lexemes.now)
    c.starts_any.ensures c.loop-alloc-test.true c.in_err-port.ensures c.loop-alloc.invariant)

pub loop-alloc-smaller : goal.loop-alloc-smaller
loop-alloc-smaller c = smaller none (one_of sides) Port port_at port_item c.starts_any.result c.loop-alloc.lexemes c.port.new.lexemes c.in_ok-port.field-0 c.starts_any.ensures c.loop-alloc-test.true c.in_ok-port.ensures

pub loop-alloc-preserved : goal.loop-alloc-preserved
loop-alloc-preserved c =
    goes_on at_end none (one_of sides) Port port_at port_item c.starts_any.result c.loop-alloc.ports.items c.push.new.self.items c.loop-alloc.lexemes c.port.new.lexemes c.in_ok-port.field-0 (ports_at c.args.lexemes.now)
    c.starts_any.ensures c.loop-alloc-test.true c.in_ok-port.ensures c.in_ok-push.ensures.items c.loop-alloc.invariant

pub returns : goal.returns
returns c = rw c.of.ensures (is_done at_end (one_of sides) port_at c.starts_any.result c.loop-alloc.ports.items c.loop-alloc.lexemes (ports_at c.args.lexemes.now) c.starts_any.ensures c.loop-alloc-test.false c.loop-alloc.invariant)
