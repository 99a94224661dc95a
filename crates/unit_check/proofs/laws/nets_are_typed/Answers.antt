use Rattle.std.specs.Prelude.{is_some, slice_get}
use Rattle.design_model.specs.Typed.{IsTyped}
use Rattle.design_model.specs.TypedLaws.{IsTyped-Net}
use Rattle.order_core.specs.Pointwise.{Each}
use Rattle.side_ports.specs.SideLaws.{sides_are_ports}
use Rattle.tree_units.specs.Posets.{poset_place}
use Rattle.unit_check.proofs.NetTypeLemmas.{net_typed}
use Rattle.unit_check.specs.Constraints.{constraints_of}
use Rattle.unit_check.specs.Scopes.{scope_at}
use Rattle.unit_check.specs.TypeFaults.{rules_of}
use Rattle.unit_check.proofs.laws.nets_are_typed.Goals as goal

pub returns : goal.returns
returns c =
    let names = c.args.names.now in
    let types = names.types in
    let ports = sides_are_ports types (c.ports_are_whole.ensures.whole (poset_place types)) (c.ports_are_whole.ensures.posets (poset_place types) (λ k. is_some (slice_get types.posets k))) in
    λ i f got none designs fit typed.
    let scope = scope_at names.files types i f.tree in
    let is_typed = net_typed names.files types names.small i f got designs (Each (λ part. IsTyped types part.design) designs) ports (c.rules_are_typed.ensures.each types scope (rules_of f.tree) names.named none) fit typed in
    rw (IsTyped-Net types scope.own.provides scope.own.requires_ designs (constraints_of types scope (rules_of f.tree))) is_typed
