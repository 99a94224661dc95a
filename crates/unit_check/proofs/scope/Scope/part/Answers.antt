use Rattle.std.proofs.Common.{◌∙◌, ap, sym, option_map, ℕ, Bor}
use Rattle.std.specs.Option.{option_copied}
use Rattle.std.specs.Prelude.{Option, Some}
use Rattle.side_ports.specs.Held.{sides_held}
use Rattle.side_ports.specs.Sides.{Sides}
use Rattle.side_ports.specs.declared.ports.SidePorts.{SidePorts}
use Rattle.unit_check.proofs.PlaceLemmas.{part_missing, part_past, part_there}
use Rattle.unit_check.proofs.scope.Scope.part.Goals as goal

abbrev held : ℕ × Bor SidePorts → ℕ × Sides
held part = (part.0, sides_held part.1.now)

abbrev option_pair : ℕ → SidePorts → Option (ℕ × Sides)
option_pair k ports = Some (k, sides_held ports)

pub returns-in_err-number : goal.returns-in_err-number
returns-in_err-number c =
    let scope = c.args.self.now in
    let name = c.args.name.now in
    ap (option_map held) c.from_residual.ensures
    ∙ sym (part_missing scope.parts name (sym (scope.numbered name) ∙ sym c.get.ensures ∙ c.in_err-number.was))

pub returns-in_err-part : goal.returns-in_err-part
returns-in_err-part c =
    let scope = c.args.self.now in
    let name = c.args.name.now in
    let k = c.in_ok-number.number in
    ap (option_map held) c.from_residual-in_err-part.ensures
    ∙ sym (part_past scope.parts name k (sym (scope.numbered name) ∙ sym c.get.ensures ∙ c.in_ok-number.was) (sym c.get-2.ensures ∙ ap option_copied (c.in_err-part.was)))

pub returns : goal.returns
returns c =
    let scope = c.args.self.now in
    let name = c.args.name.now in
    let k = c.in_ok-number.number in
    let part = c.in_ok-part.part.now in
    ap (λ (ports : SidePorts). option_pair k ports) c.get-3.ensures
    ∙ sym (part_there scope.parts name k part (sym (scope.numbered name) ∙ sym c.get.ensures ∙ c.in_ok-number.was) (sym c.get-2.ensures ∙ ap option_copied (c.in_ok-part.was)))
