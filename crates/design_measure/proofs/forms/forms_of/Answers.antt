use Rattle.std.proofs.Common.{ℕ, List, refl, subst, sym}
use Rattle.std.proofs.lemmas.List.{take_all}
use Rattle.order_core.specs.Members.{IsMember}
use Rattle.design_measure.proofs.TableLemmas.{all_filled, filled_next}
use Rattle.design_measure.proofs.forms.forms_of.Goals as goal

pub loop-number-preserved : goal.loop-number-preserved
loop-number-preserved g c =
    filled_next (g.M.Measuring.measure c.args.measuring.now) c.args.modules.now c.args.order.now c.loop-number.number-index _ c.loop-number.forms.items c.fill.new.forms.items c.loop-number-test.true refl c.loop-number.invariant c.in_ok-fill.ensures

pub returns : goal.returns
returns g c =
    all_filled (g.M.Measuring.measure c.args.measuring.now) c.args.modules.now c.loop-number.forms.items _ _ c.loop-number.invariant
    (λ i named e. subst (λ (numbers : List ℕ). IsMember i numbers) (sym (take_all c.loop-number.number-index c.args.order.now c.loop-number-test.false)) (c.requires.all i named e))
