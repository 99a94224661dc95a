-- The term of each kind of design.
use Rattle.std.proofs.Common.{refl, ap, ◌∙◌}
use Rattle.std.proofs.lemmas.Simd.{map-map}
use Rattle.std.specs.Prelude.{◌≡◌, List, map}
use Rattle.value_type.specs.PortKinds.{port_kinds}
use Rattle.value_type.specs.declared.port.Port.{Port}
use Rattle.design_model.specs.Parts.{provided_at, provided_ports, required_at, required_ports}
use Rattle.design_model.specs.Wiring.{wiring_of}
use Rattle.design_model.specs.declared.design.CatRow.{CatRow}
use Rattle.design_model.specs.declared.design.Design.TheOpen.{Design-F}
use Rattle.design_model.specs.declared.design.Design.TheVariants.{Cat, Choice, Net, outs-Cat, outs-Choice, outs-Net}
use Rattle.design_model.specs.declared.design.Design.{Design, fold_out-Design, map-Design, out-Design}
use Rattle.design_model.specs.declared.design.Part.{Part, fold-Part, fold_out-Part}
use Rattle.design_model.specs.declared.expr.Constraint.{Constraint}
use Rattle.design_term.specs.declared.term.Primitive.TheVariants as prim
use Rattle.design_term.specs.declared.term.Term.TheVariants as term
use Rattle.compiled_term.specs.CompiledTerm.{compiled, compiled_step, known, net_term, wired_parts}
use Rattle.compiled_term.specs.Stages.{Compiled}

abbrev pub known_of : Part → Compiled
known_of p = known p.design

known_of_part : (p : Part) → fold-Part Compiled Compiled compiled_step (λ p. p.design) p ≡ known_of p
known_of_part p = fold_out-Part Compiled Compiled compiled_step (λ p. p.design) p

seen : (d : Design) → known d ≡ compiled_step (map-Design Design Part Compiled Compiled known (fold-Part Compiled Compiled compiled_step (λ p. p.design)) (out-Design d))
seen d = fold_out-Design Compiled Compiled compiled_step (λ p. p.design) d

abbrev level : Design-F Design Part → Compiled
level x = compiled_step (map-Design Design Part Compiled Compiled known (fold-Part Compiled Compiled compiled_step (λ p. p.design)) x)

pub compiled-Cat : (provides requires_ : List Port) (rows : List CatRow) → compiled (Cat provides requires_ rows) ≡ term.Prim (prim.Rows (port_kinds provides) (port_kinds requires_) rows)
compiled-Cat provides requires_ rows = ap (λ (c : Compiled). c.term) (seen (Cat provides requires_ rows) ∙ ap level (outs-Cat provides requires_ rows))

pub compiled-Choice : (provides requires_ : List Port) (branches : List Part) → compiled (Choice provides requires_ branches) ≡ term.Alt (map (λ (p : Part). compiled p.design) branches)
compiled-Choice provides requires_ branches =
    ap (λ (c : Compiled). c.term) (seen (Choice provides requires_ branches) ∙ ap level (outs-Choice provides requires_ branches))
    ∙ ((λ i. term.Alt (map (λ (c : Compiled). c.term) (map (λ (p : Part). known_of_part p i) branches)))
    ∙ ap term.Alt (map-map (λ (c : Compiled). c.term) known_of branches))

pub compiled-Net : (provides requires_ : List Port) (parts : List Part) (constraints : List Constraint)
    → compiled (Net provides requires_ parts constraints) ≡ net_term (wired_parts provides requires_ (map known_of parts) constraints) (map known_of parts)
compiled-Net provides requires_ parts constraints =
    ap (λ (c : Compiled). c.term) (seen (Net provides requires_ parts constraints) ∙ ap level (outs-Net provides requires_ parts constraints))
    ∙ (λ i. net_term (wired_parts provides requires_ (map (λ (p : Part). known_of_part p i) parts) constraints) (map (λ (p : Part). known_of_part p i) parts))

pub provided_known : (d : Design) → (known d).provided ≡ port_kinds (provided_ports d)
provided_known d = ap (λ (c : Compiled). c.provided) (seen d) ∙ at (out-Design d)
  where
    at : (x : Design-F Design Part) → (level x).provided ≡ port_kinds (provided_at x)
    at (Design-F.Cat provides requires_ rows) = refl
    at (Design-F.Choice provides requires_ branches) = refl
    at (Design-F.Net provides requires_ parts constraints) = refl

pub required_known : (d : Design) → (known d).required ≡ port_kinds (required_ports d)
required_known d = ap (λ (c : Compiled). c.required) (seen d) ∙ at (out-Design d)
  where
    at : (x : Design-F Design Part) → (level x).required ≡ port_kinds (required_at x)
    at (Design-F.Cat provides requires_ rows) = refl
    at (Design-F.Choice provides requires_ branches) = refl
    at (Design-F.Net provides requires_ parts constraints) = refl

pub provided_parts : (parts : List Part) → map (λ (c : Compiled). c.provided) (map known_of parts) ≡ map (λ (p : Part). port_kinds (provided_ports p.design)) parts
provided_parts parts = map-map (λ (c : Compiled). c.provided) known_of parts ∙ (λ j. map (λ (p : Part). provided_known p.design j) parts)

pub required_parts : (parts : List Part) → map (λ (c : Compiled). c.required) (map known_of parts) ≡ map (λ (p : Part). port_kinds (required_ports p.design)) parts
required_parts parts = map-map (λ (c : Compiled). c.required) known_of parts ∙ (λ j. map (λ (p : Part). required_known p.design j) parts)

-- The wiring by which a net is compiled is the net's.
pub wired_is : (provides requires_ : List Port) (parts : List Part) (constraints : List Constraint) → wired_parts provides requires_ (map known_of parts) constraints ≡ wiring_of (λ p. p) provides requires_ parts constraints
wired_is provides requires_ parts constraints = λ i. record {
  provides = port_kinds provides;
  requires_ = port_kinds requires_;
  provided = provided_parts parts i;
  required = required_parts parts i;
  constraints = constraints;
}

-- the term of a net, by the net's own wiring
pub net_term_is : (provides requires_ : List Port) (parts : List Part) (constraints : List Constraint)
    → compiled (Net provides requires_ parts constraints) ≡ net_term (wiring_of (λ p. p) provides requires_ parts constraints) (map known_of parts)
net_term_is provides requires_ parts constraints = compiled-Net provides requires_ parts constraints ∙ (λ i. net_term (wired_is provides requires_ parts constraints i) (map known_of parts))
