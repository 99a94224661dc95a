use Rattle.std.proofs.Common.{◌∙◌, sym}
use Rattle.reference_check.proofs.MatchLemmas.{all_alike, one_alike, one_differs, outlines_size, unlike_sizes}
use Rattle.reference_rules.specs.Outlines.{outlines}
use Rattle.reference_check.proofs.matching.are_alike.Goals as goal

pub returns-then-xs-ys : goal.returns-then-xs-ys
returns-then-xs-ys c = unlike_sizes (outlines c.args.xs.now) (outlines c.args.ys.now) (λ e. c.if-xs-ys.true (sym (outlines_size c.args.xs.now) ∙ e ∙ outlines_size c.args.ys.now))

pub returns-then-not-is_same : goal.returns-then-not-is_same
returns-then-not-is_same c =
    sym (one_differs c.args.xs.now c.args.ys.now c.loop-at.at c.index-xs-at.result c.index-ys-at.result c.loop-at-test.true c.if-xs-ys.false c.index-xs-at.is c.index-ys-at.is _ c.loop-at.invariant (sym c.is_same.ensures ∙ c.if-not-is_same.true))

pub loop-at-preserved : goal.loop-at-preserved
loop-at-preserved c =
    one_alike c.args.xs.now c.args.ys.now c.loop-at.at c.index-xs-at.result c.index-ys-at.result c.loop-at-test.true c.if-xs-ys.false c.index-xs-at.is c.index-ys-at.is _ c.loop-at.invariant (sym c.is_same.ensures ∙ c.if-not-is_same.false)

pub returns : goal.returns
returns c = all_alike c.args.xs.now c.args.ys.now c.loop-at.at _ c.loop-at-test.false c.if-xs-ys.false c.loop-at.invariant
