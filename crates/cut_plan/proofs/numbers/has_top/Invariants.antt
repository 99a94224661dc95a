use Rattle.std.proofs.Common.{◌≡◌, drop}
use Rattle.std.specs.List.{list_any}
use Rattle.value_type.specs.declared.value.Value.{out-Value}
use Rattle.cut_plan.specs.Different as spec
use Rattle.cut_plan.proofs.numbers.has_top.Given as goal

-- What is left decides.
abbrev pub invariant-loop-value : goal.invariant-loop-value
invariant-loop-value l = list_any (λ v. spec.is_top (out-Value v)) (drop l.value-index l.values) ≡ list_any (λ v. spec.is_top (out-Value v)) l.values
