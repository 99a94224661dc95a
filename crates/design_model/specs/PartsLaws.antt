-- What the ports of each kind of design are, and that names of branches and parts don't matter to a wiring.
use Rattle.std.specs.Prelude.{◌≡◌, IsTrue, List, map}
use Rattle.std.proofs.Common.{refl, sym, ◌∙◌}
use Rattle.std.proofs.lemmas.Simd.{map-map}
use Rattle.value_type.specs.declared.port.Port.{Port}
use Rattle.value_type.specs.PortKinds.{port_kinds}
use Rattle.design_model.specs.declared.design.CatRow.{CatRow}
use Rattle.design_model.specs.declared.design.Design.{Design, roll-Design, roll-out-Design, out-Design}
use Rattle.design_model.specs.declared.design.Design.TheOpen.{Design-F}
use Rattle.design_model.specs.declared.design.Design.TheVariants.{Cat, Choice, Net, outs-Cat, outs-Choice, outs-Net, rolls-Cat}
use Rattle.design_model.specs.declared.design.Part.{Part}
use Rattle.design_model.specs.declared.expr.Constraint.{Constraint}
use Rattle.design_model.specs.Parts.{provided_at, required_at, provided_ports, required_ports, rows_at, rows_of, is_catalogue_at, is_catalogue}
use Rattle.design_model.specs.Wiring.{wiring_of}

pub provided-Cat : (provides requires_ : List Port) (rows : List CatRow) → provided_ports (Cat provides requires_ rows) ≡ provides
provided-Cat provides requires_ rows = rw outs-Cat refl

pub required-Cat : (provides requires_ : List Port) (rows : List CatRow) → required_ports (Cat provides requires_ rows) ≡ requires_
required-Cat provides requires_ rows = rw outs-Cat refl

pub provided-Choice : (provides requires_ : List Port) (branches : List Part) → provided_ports (Choice provides requires_ branches) ≡ provides
provided-Choice provides requires_ branches = rw outs-Choice refl

pub required-Choice : (provides requires_ : List Port) (branches : List Part) → required_ports (Choice provides requires_ branches) ≡ requires_
required-Choice provides requires_ branches = rw outs-Choice refl

pub provided-Net : (provides requires_ : List Port) (parts : List Part) (constraints : List Constraint) → provided_ports (Net provides requires_ parts constraints) ≡ provides
provided-Net provides requires_ parts constraints = rw outs-Net refl

pub required-Net : (provides requires_ : List Port) (parts : List Part) (constraints : List Constraint) → required_ports (Net provides requires_ parts constraints) ≡ requires_
required-Net provides requires_ parts constraints = rw outs-Net refl

pub wiring_natural : (Y : Type 0) (part : Y → Part) (provides requires_ : List Port) (parts : List Y) (constraints : List Constraint)
    → wiring_of part provides requires_ parts constraints ≡ wiring_of (λ p. p) provides requires_ (map part parts) constraints
wiring_natural Y part provides requires_ parts constraints = λ i. record {
  provides = port_kinds provides;
  requires_ = port_kinds requires_;
  provided = sym (map-map (λ (p : Part). port_kinds (provided_ports p.design)) part parts) i;
  required = sym (map-map (λ (p : Part). port_kinds (required_ports p.design)) part parts) i;
  constraints = constraints;
}

pub rows-Cat : (provides requires_ : List Port) (rows : List CatRow) → rows_of (Cat provides requires_ rows) ≡ rows
rows-Cat provides requires_ rows = rw outs-Cat refl

pub catalogue-Cat : (provides requires_ : List Port) (rows : List CatRow) → IsTrue (is_catalogue (Cat provides requires_ rows))
catalogue-Cat provides requires_ rows = rw outs-Cat refl

-- A catalogue is made of its ports and rows.
pub catalogue_is : (d : Design) → IsTrue (is_catalogue d) → d ≡ Cat (provided_ports d) (required_ports d) (rows_of d)
catalogue_is d h = sym (roll-out-Design d) ∙ at (out-Design d) h
  where
    at : (x : Design-F Design Part) → IsTrue (is_catalogue_at x) → roll-Design x ≡ Cat (provided_at x) (required_at x) (rows_at x)
    at (Design-F.Cat provides requires_ rows) k = rolls-Cat provides requires_ rows
    at (Design-F.Choice provides requires_ branches) k = absurd (cc)
    at (Design-F.Net provides requires_ parts constraints) k = absurd (cc)
