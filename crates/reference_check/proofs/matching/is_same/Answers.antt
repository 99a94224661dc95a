use Rattle.std.proofs.Common.{◌∙◌, sym}
use Rattle.std.specs.Str.{bytes_eq}
use Rattle.reference_check.proofs.MatchLemmas.{outline_by}
use Rattle.reference_check.proofs.matching.is_same.Goals as goal

pub returns-then-eq : goal.returns-then-eq
returns-then-eq c =
    outline_by c.args.a.now c.args.b.now c.is_same.result c.is_same.ensures.0 c.is_same.ensures.1
    ((λ i. bytes_eq (sym c.as_str.ensures i) (sym c.as_str-2.ensures i)) ∙ sym c.eq.ensures ∙ c.if-eq.true)
