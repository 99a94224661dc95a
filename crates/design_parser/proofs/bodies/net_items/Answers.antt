use Rattle.std.proofs.lemmas.Result.{err_from_is_err_and}
use Rattle.design_lexer.specs.Syntax.Classes.{one_of}
use Rattle.design_lexer.specs.Syntax.LoopLaws.{goes_on, ends, is_done, smaller}
use Rattle.design_lexer.specs.Syntax.Parts.{none}
use Rattle.design_parser.specs.Grammar.{NetItemOf}
use Rattle.design_parser.specs.Lists.{lists_of}
use Rattle.design_parser.specs.Readers.{item_starts, net_item_at, net_items_at}
use Rattle.design_parser.specs.Trees.{with_item}
use Rattle.design_parser.proofs.BodyParts.{net_item}
use Rattle.design_parser.proofs.bodies.net_items.Goals as goal

pub returns-in_err-item : goal.returns-in_err-item
returns-in_err-item c =
    let p = err_from_is_err_and c.from_residual.result c.from_residual.ensures.1 in
    rw (p.1, p.2) (ends with_item none (one_of item_starts) NetItemOf net_item_at net_item c.in_err-item.field-0.0 c.starts_any.result (lists_of c.loop-alloc.lists) c.loop-alloc.lexemes (net_items_at c.args.lexemes.now)
    c.starts_any.ensures c.loop-alloc-test.true c.in_err-item.ensures c.loop-alloc.invariant)

pub loop-alloc-smaller : goal.loop-alloc-smaller
loop-alloc-smaller c = smaller none (one_of item_starts) NetItemOf net_item_at net_item c.starts_any.result c.loop-alloc.lexemes c.net_item.new.lexemes c.in_ok-item.item c.starts_any.ensures c.loop-alloc-test.true c.in_ok-item.ensures

pub loop-alloc-preserved : goal.loop-alloc-preserved
loop-alloc-preserved c =
    goes_on with_item none (one_of item_starts) NetItemOf net_item_at net_item c.starts_any.result (lists_of c.loop-alloc.lists) (lists_of c.add.new.lists) c.loop-alloc.lexemes c.net_item.new.lexemes c.in_ok-item.item (net_items_at c.args.lexemes.now)
    c.starts_any.ensures c.loop-alloc-test.true c.in_ok-item.ensures c.in_ok-add.ensures c.loop-alloc.invariant

pub returns : goal.returns
returns c = is_done with_item (one_of item_starts) net_item_at c.starts_any.result (lists_of c.loop-alloc.lists) c.loop-alloc.lexemes (net_items_at c.args.lexemes.now) c.starts_any.ensures c.loop-alloc-test.false c.loop-alloc.invariant
