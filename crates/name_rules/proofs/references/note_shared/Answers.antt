use Rattle.std.proofs.Common.{◌≡◌, ◌∙◌, refl, sym, ap, ℕ, length, max}
use Rattle.std.proofs.lemmas.Option.{slice_get_read}
use Rattle.std.specs.Prelude.{Option, Some, None, option_and_then, slice_get}
use Rattle.design_lexer.specs.declared.tree.BranchTree.{BranchTree}
use Rattle.design_lexer.specs.declared.tree.PortTree.{PortTree}
use Rattle.fault_list.specs.Faults.{earlier, least}
use Rattle.fault_list.specs.FaultLaws.{earlier_than_none}
use Rattle.fault_list.specs.declared.fault.Fault.{Fault}
use Rattle.fault_list.specs.declared.fault.FaultKind.TheVariants.{Twice}
use Rattle.name_index.specs.Names.{number_of}
use Rattle.name_rules.specs.Places.{named_item, place_of}
use Rattle.name_rules.specs.Twice.{shared_fault}
use Rattle.name_rules.proofs.NoteLemmas.{left_next}
use Rattle.name_index.specs.PlaceLaws.{place_below}
use Rattle.name_rules.proofs.references.note_shared.Goals as goal
use Rattle.name_rules.proofs.references.note_shared.Goals.{in-Some, in_default}

pub bounds-ports-at : goal.bounds-ports-at
bounds-ports-at c =
    let name = c.part-item.result.name.name in
    let told : c.get.result ≡ place_of (λ (p : PortTree). p.name) c.args.ports.now name = c.get.ensures ∙ ap (number_of c.in_ok-places.places) c.as_str.ensures ∙ c.in_ok-places.ensures name in
    place_below (λ (p : PortTree). p.name.name) c.args.ports.now name c.in-Some.at (sym told ∙ c.in-Some.is)

pub bounds-ports-at-in-Some : goal.bounds-ports-at-in-Some
bounds-ports-at-in-Some c =
    let name = c.part-item.result.name.name in
    let told : c.get.result ≡ place_of (λ (p : PortTree). p.name) c.args.ports.now name = c.get.ensures ∙ ap (number_of c.in_ok-places.places) c.as_str.ensures ∙ c.in_ok-places.ensures name in
    place_below (λ (p : PortTree). p.name.name) c.args.ports.now name c.in-Some.at (sym told ∙ c.in-Some.is)

pub loop-part-preserved : goal.loop-part-preserved
loop-part-preserved c =
    let ports = c.args.ports.now in
    let part = c.part-item.result in
    let name = part.name.name in
    let first = c.loop-part.first in
    let faults = λ (b : BranchTree). shared_fault b.name (named_item (λ (p : PortTree). p.name) ports b.name.name) in
    let told : c.get.result ≡ place_of (λ (p : PortTree). p.name) ports name = c.get.ensures ∙ ap (number_of c.in_ok-places.places) c.as_str.ensures ∙ c.in_ok-places.ensures name in
    let next : (o : Option PortTree) → named_item (λ (p : PortTree). p.name) ports name ≡ o → (f : Option Fault) → f ≡ earlier first (least (shared_fault part.name o)) → f ≡ earlier first (least (faults part))
    = λ o is f e. e ∙ ap (λ (q : Option PortTree). earlier first (least (shared_fault part.name q))) (sym is) in
    left_next faults c.args.parts.now c.loop-part.part-index part c.loop-part-test.true c.part-item.is first c.match-get.first _ c.loop-part.invariant
    (elim c.match-get.branch [
      | in-Some w ↦
          let port = w.index-ports-at.result in
          let found : place_of (λ (p : PortTree). p.name) ports name ≡ Some w.in-Some.at = sym told ∙ w.in-Some.is in
          let below = place_below (λ (p : PortTree). p.name.name) ports name w.in-Some.at found in
          let item : named_item (λ (p : PortTree). p.name) ports name ≡ Some port = ap (option_and_then (slice_get ports)) found ∙ slice_get_read ports (length ports) w.in-Some.at port refl below w.index-ports-at.is in
          let later : w.max.result ≡ max part.name.at port.name.at = w.max.ensures ∙ ap (λ (p : PortTree). max part.name.at p.name.at) (sym w.index-ports-at.is) in
          next (Some port) item c.match-get.first (w.first-is ∙ w.note.ensures ∙ ap (λ (k : ℕ). earlier first (Some (record { kind = Twice; at = k }))) later)
      | in_default w ↦
          let found : place_of (λ (p : PortTree). p.name) ports name ≡ None = sym told ∙ w.in_default.is in
          next None (ap (option_and_then (slice_get ports)) found) c.match-get.first (w.first-is ∙ sym (earlier_than_none first))
    ])
