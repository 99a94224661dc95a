use Rattle.std.proofs.Common.{◌≡◌, length}
use Rattle.design_measure.proofs.forms.no_forms.Given as goal

abbrev pub invariant-loop : goal.invariant-loop
invariant-loop l = length l.forms.items ≡ l.counter
