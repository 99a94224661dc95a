use Rattle.std.proofs.Common.{◌≡◌, ◌+◌, drop, sym, ◌∙◌, arith, subst}
use Rattle.design_lexer.specs.Syntax.Classes.{lexemes_of}
use Rattle.design_lexer.specs.Syntax.Reading.{over}
use Rattle.design_lexer.proofs.Over.{at_limit, at_stop, past_sign, past_other, at_last}
use Rattle.design_lexer.proofs.syntax.limit.over.Goals.{then-is_sign+else-left-eq0, else-is_sign+else-is}
use Rattle.design_lexer.proofs.syntax.limit.over.Goals as goal

pub returns-then-left-eq0-clause-over : goal.returns-then-left-eq0-clause-over
returns-then-left-eq0-clause-over c =
    at_limit c.args.text.now c.args.tokens.now c.loop-at.at c.loop-at.left _ _ c.loop-at-test.true (sym c.is_sign.ensures ∙ c.if-is_sign.true) c.if-left-eq0.true c.loop-at.invariant

pub returns-then-is-clause-over : goal.returns-then-is-clause-over
returns-then-is-clause-over c =
    at_stop c.args.text.now c.args.tokens.now c.loop-at.at c.loop-at.left _ _ c.loop-at-test.true (sym c.is_sign.ensures ∙ c.if-is_sign.false) (sym c.is.ensures ∙ c.if-is.true) c.loop-at.invariant

pub loop-at-preserved : goal.loop-at-preserved
loop-at-preserved c =
    let total = over c.args.limit (lexemes_of c.args.text.now c.args.tokens.now) in
    elim c.if-is_sign.branch [
      | then-is_sign+else-left-eq0 w ↦
          subst (λ n. over n (lexemes_of c.args.text.now (drop (c.loop-at.at + 1) c.args.tokens.now)) ≡ total) (sym w.left-is)
          (past_sign c.args.text.now c.args.tokens.now c.loop-at.at c.loop-at.left _ _ c.loop-at-test.true (sym c.is_sign.ensures ∙ w.if-is_sign.true) (omega (arith, w.if-left-eq0.false)) c.loop-at.invariant)
      | else-is_sign+else-is w ↦
          subst (λ n. over n (lexemes_of c.args.text.now (drop (c.loop-at.at + 1) c.args.tokens.now)) ≡ total) (sym w.left-is)
          (past_other c.args.text.now c.args.tokens.now c.loop-at.at c.loop-at.left _ _ c.loop-at-test.true (sym c.is_sign.ensures ∙ w.if-is_sign.false) (sym w.is.ensures ∙ w.if-is.false) c.loop-at.invariant)
    ]

pub returns-clause-over : goal.returns-clause-over
returns-clause-over c = at_last c.args.text.now c.args.tokens.now c.loop-at.at c.loop-at.left _ c.loop-at-test.false c.loop-at.invariant
