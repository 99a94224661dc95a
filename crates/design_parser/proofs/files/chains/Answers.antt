use Rattle.std.proofs.lemmas.Result.{err_from_is_err_and}
use Rattle.design_lexer.specs.declared.syntax.class.Class.TheVariants as class
use Rattle.design_lexer.specs.Syntax.Classes.{is}
use Rattle.design_lexer.specs.Syntax.LoopLaws.{goes_on, ends, is_done, smaller}
use Rattle.design_lexer.specs.Syntax.Parts.{none}
use Rattle.design_lexer.specs.Syntax.Words.{at_end}
use Rattle.design_parser.specs.Grammar.{Chain}
use Rattle.design_parser.specs.Readers.{chain_at, chains_at}
use Rattle.design_parser.proofs.BodyParts.{chain_item}
use Rattle.design_parser.proofs.files.chains.Goals as goal

pub returns-in_err-chain : goal.returns-in_err-chain
returns-in_err-chain c =
    let p = err_from_is_err_and c.from_residual.result c.from_residual.ensures.1 in
    rw (p.1, p.2) (ends at_end none (is class.Name) Chain chain_at chain_item c.in_err-chain.field-0.0 c.starts.result c.loop-alloc.chains.items c.loop-alloc.lexemes (chains_at c.args.lexemes.now)
    c.starts.ensures c.loop-alloc-test.true c.in_err-chain.ensures c.loop-alloc.invariant)

pub loop-alloc-smaller : goal.loop-alloc-smaller
loop-alloc-smaller c = smaller none (is class.Name) Chain chain_at chain_item c.starts.result c.loop-alloc.lexemes c.chain.new.lexemes c.in_ok-chain.field-0 c.starts.ensures c.loop-alloc-test.true c.in_ok-chain.ensures

pub loop-alloc-preserved : goal.loop-alloc-preserved
loop-alloc-preserved c =
    goes_on at_end none (is class.Name) Chain chain_at chain_item c.starts.result c.loop-alloc.chains.items c.push.new.self.items c.loop-alloc.lexemes c.chain.new.lexemes c.in_ok-chain.field-0 (chains_at c.args.lexemes.now)
    c.starts.ensures c.loop-alloc-test.true c.in_ok-chain.ensures c.in_ok-push.ensures.items c.loop-alloc.invariant

pub returns : goal.returns
returns c = rw c.of.ensures (is_done at_end (is class.Name) chain_at c.starts.result c.loop-alloc.chains.items c.loop-alloc.lexemes (chains_at c.args.lexemes.now) c.starts.ensures c.loop-alloc-test.false c.loop-alloc.invariant)
