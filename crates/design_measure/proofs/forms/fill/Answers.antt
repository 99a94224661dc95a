use Rattle.std.proofs.Common.{List, subst}
use Rattle.design_measure.proofs.TableLemmas.{filled_by}
use Rattle.design_measure.specs.Scales.{IsFormOf}
use Rattle.design_measure.specs.declared.form.Form.{Form}
use Rattle.design_measure.proofs.forms.fill.Goals as goal

pub returns-in_ok-form : goal.returns-in_ok-form
returns-in_ok-form g c = filled_by (g.M.Measuring.measure c.args.measuring.now) c.args.modules.now c.in-Some.named.now c.args.forms.now.items c.args.number c.in_ok-form.form c.in-Some.ensures c.requires (subst (λ (forms : List Form). IsFormOf (g.M.Measuring.measure c.args.measuring.now) forms c.in-Some.named.now.body c.in_ok-form.form) c.deref.ensures.value c.in_ok-form.ensures)
