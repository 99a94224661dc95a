-- Each count in a unit is written as a fraction in lowest terms.
use Rattle.std.proofs.Common.{◌≡◌, refl, ap, ◌∙◌, ℕ, ◌*◌, ◌<◌, ◌≤◌, List, arith}
use Rattle.std.proofs.Math.Nat.{le-mul_of_pos_right}
use Rattle.std.proofs.lemmas.Bool.Decides.{nat_tests}
use Rattle.std.specs.Prelude.{Result, Ok}
use Rattle.report_text.specs.Counts.{IsFractionText}
use Rattle.report_text.specs.Texts.{units_text, value_text}
use Rattle.unit_core.specs.declared.dim.Dim.{Dim}
use Rattle.unit_core.specs.declared.fault.FractionFault.{FractionFault}
use Rattle.unit_core.specs.Gcd.{gcd}
use Rattle.unit_core.specs.Ratio.{Ratio, greatest_part, lowest, quotient, ranged}
use Rattle.unit_core.specs.RatioLaws.{divisor_pos, lowest-den, lowest-num, lowest_is, quotient-pos}
use Rattle.value_type.specs.declared.kind.Kind.TheFolds.{fold_out-Kind}
use Rattle.value_type.specs.declared.kind.Kind.TheVariants as kind
use Rattle.value_type.specs.declared.port.PortUnit.TheVariants as unit
use Rattle.value_type.specs.declared.poset.Types.{Types}
use Rattle.value_type.specs.declared.value.Value.TheVariants as value

part_within : (divisor part whole bound : ℕ) → 0 < divisor → divisor * part ≡ whole → whole ≤ bound → part ≤ bound
part_within divisor part whole bound p e h = let more : part ≤ part * divisor = le-mul_of_pos_right part p in omega arith

in_range : (r : Ratio) → r.num ≤ greatest_part → r.den ≤ greatest_part → ranged r ≡ Ok r
in_range r num den = grind (arith, nat_tests)

quotient_there : (count size : ℕ) → 0 < size → size ≤ greatest_part → count ≤ greatest_part → quotient count size ≡ Ok (lowest count size)
quotient_there count size p size_within count_within =
    let divisor = divisor_pos count size p in
    quotient-pos count size p
    ∙ in_range (lowest count size) (part_within (gcd count size) (lowest count size).num count greatest_part divisor (lowest-num count size) count_within)
    (part_within (gcd count size) (lowest count size).den size greatest_part divisor (lowest-den count size) size_within)

in_units : (t : Types) (dim : Dim) (name : List ℕ) (size count : ℕ)
    → value_text t (kind.Num dim) (unit.Unit name size) (value.Num count) ≡ units_text (quotient count size) name
in_units t dim name size count = rw (fold_out-Kind, kind.outs-Num, unit.outs-Unit, value.outs-Num) refl

pub fraction_text : (t : Types) (dim : Dim) (name : List ℕ) (size count : ℕ) → 0 < size → size ≤ greatest_part → count ≤ greatest_part
    → IsFractionText count size name (value_text t (kind.Num dim) (unit.Unit name size) (value.Num count))
fraction_text t dim name size count p size_within count_within = (
  lowest count size,
  lowest_is count size p,
  in_units t dim name size count ∙ ap (λ (q : Result Ratio FractionFault). units_text q name) (quotient_there count size p size_within count_within),
)
