use Rattle.std.proofs.Common.{◌≡◌, ◌∙◌, ◌∷◌, [], ap, sym, Bool, List}
use Rattle.std.specs.Prelude.{Option, Some, not, option_map}
use Rattle.expr_lower.specs.Meanings.{lowered}
use Rattle.expr_lower.specs.Reading.{reading}
use Rattle.expr_lower.specs.declared.meaning.Lower.{Lower}
use Rattle.fault_list.specs.Faults.{fault_if, first_fault}
use Rattle.unit_check.proofs.RuleLemmas.{above_sides, kinds_differ, kinds_same}
use Rattle.unit_check.specs.Constraints.{constraint_by}
use Rattle.unit_check.specs.Held.{ports_held}
use Rattle.unit_check.specs.Rules.{sides_differ}
use Rattle.unit_check.specs.Scopes.{Target, readable, target}
use Rattle.unit_check.proofs.rules.above_of.Goals as goal

pub returns-then-is_same : goal.returns-then-is_same
returns-then-is_same c =
    let types = c.args.names.now.types in
    let scope = ports_held c.args.scope.now in
    let place = c.args.place.now in
    let tree = c.args.tree.now in
    let t : Target = record { greater = c.in-Some.greater; kind = c.in-Some.kind.now } in
    let same = kinds_same t.kind c.in_ok-lower.lower.kind (c.is_same.ensures.0 c.if-is_same.true) in
    let placed : target scope place ≡ Some t = sym c.in-Some.ensures in
    let means : option_map lowered (reading types (readable scope) tree).meaning ≡ Some c.in_ok-lower.lower = c.in_ok-lower.ensures.1 in (
      above_sides types scope place tree t placed c.in_ok-lower.lower c.in_ok-lower.ensures.0 means
          ∙ ap (λ (s : Bool). fault_if (not s) (sides_differ place)) same,
      (λ i. constraint_by (sym placed i) (sym means i)),
    )

pub returns-else-is_same : goal.returns-else-is_same
returns-else-is_same c =
    let place = c.args.place.now in
    let t : Target = record { greater = c.in-Some.greater; kind = c.in-Some.kind.now } in
    let differ = kinds_differ t.kind c.in_ok-lower.lower.kind c.is_same.result c.if-is_same.false c.is_same.ensures.1 in
    rw c.mismatch.ensures (ap first_fault (above_sides c.args.names.now.types (ports_held c.args.scope.now) place c.args.tree.now t (sym c.in-Some.ensures) c.in_ok-lower.lower c.in_ok-lower.ensures.0 c.in_ok-lower.ensures.1
    ∙ ap (λ (s : Bool). fault_if (not s) (sides_differ place)) differ))
