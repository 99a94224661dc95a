use Rattle.std.proofs.Common.{◌∙◌, ◌+◌, arith, rules, subst, sym, ap}
use Rattle.std.specs.Str.{IsUtf8}
use Rattle.design_lexer.specs.Scan.{fit_piece}
use Rattle.design_lexer.proofs.Cutting.{IsCutTo, step, advances, first_bad}
use Rattle.design_lexer.proofs.scan.lex.Goals as goal

pub returns-in-None-clause-refused : goal.returns-in-None-clause-refused
returns-in-None-clause-refused c =
    let utf8 : IsUtf8 c.args.text.now = search rules in
    (utf8, first_bad c.args.text.now c.loop-at.at c.loop-at.tokens.items c.loop-at.invariant c.loop-at-test.true (ap fit_piece (sym c.split_at.ensures.back) ∙ sym c.in-None.ensures))

pub overflow_add-at : goal.overflow_add-at
overflow_add-at c =
    let s = step c.args.text.now c.loop-at.at c.loop-at.tokens.items c.in-Some.piece c.loop-at.invariant (ap fit_piece (sym c.split_at.ensures.back) ∙ sym c.in-Some.ensures) in
    omega (arith, s.within)

pub loop-at-smaller : goal.loop-at-smaller
loop-at-smaller c =
    advances c.args.text.now c.loop-at.at c.in-Some.piece c.loop-at-test.true (ap fit_piece (sym c.split_at.ensures.back) ∙ sym c.in-Some.ensures)

pub loop-at-preserved : goal.loop-at-preserved
loop-at-preserved c =
    let s = step c.args.text.now c.loop-at.at c.loop-at.tokens.items c.in-Some.piece c.loop-at.invariant (ap fit_piece (sym c.split_at.ensures.back) ∙ sym c.in-Some.ensures) in
    subst (λ z. IsCutTo c.args.text.now (c.loop-at.at + c.in-Some.piece.len) z) (sym c.in-Ok.ensures) s
