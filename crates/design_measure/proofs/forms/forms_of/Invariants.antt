use Rattle.std.proofs.Common.{drop, take}
use Rattle.design_measure.proofs.TableLemmas.{IsFilledTo}
use Rattle.design_measure.proofs.forms.forms_of.Given as goal

abbrev pub invariant-loop-number : goal.invariant-loop-number
invariant-loop-number g l = IsFilledTo (g.M.Measuring.measure l.measuring) l.modules l.forms.items (take l.number-index l.order) (drop l.number-index l.order)
