use Rattle.std.proofs.Common.{List, subst, sym}
use Rattle.design_measure.specs.Measured.{AreMeasured}
use Rattle.design_measure.specs.declared.measures.Measured.{Measured}
use Rattle.design_measure.proofs.ToldLemmas.{all_told}
use Rattle.design_measure.proofs.measures.measures_of.Goals as goal

pub returns : goal.returns
returns c = subst (λ (made : List Measured). AreMeasured c.args.modules.now made) (sym c.of.ensures)
    (all_told c.args.modules.now c.in_ok-depths.depths.items c.in_ok-sizes.sizes.items c.loop-at.made.items c.loop-at.at c.in_ok-depths.ensures c.in_ok-sizes.ensures c.loop-at-test.false c.loop-at.invariant.1)
