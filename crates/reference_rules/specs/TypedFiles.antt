-- When a file is typed, as far as it is known without what its references denote.
use Rattle.std.specs.Prelude.{◌<◌, ℕ, List, length, map, Option}
use Rattle.order_core.specs.Pointwise.{Each}
use Rattle.design_lexer.specs.declared.tree.BodyTree.{BodyTree}
use Rattle.design_lexer.specs.declared.tree.BodyTree.TheVariants as body
use Rattle.design_lexer.specs.declared.tree.BranchTree.{BranchTree}
use Rattle.design_model.specs.Typed.{ArePorts, ConstraintIsTyped, IsFew, IsTypedCat}
use Rattle.design_model.specs.Wiring.{Wiring}
use Rattle.reference_meaning.specs.Sources.{Content, name_of}
use Rattle.reference_rules.specs.Outlines.{Outline, Outlines}
use Rattle.reference_rules.specs.ReferenceFaults.{Front, Wanted, param_named, ports_by}
use Rattle.value_type.specs.PortKinds.{port_kinds}
use Rattle.value_type.specs.declared.kind.Kind.{Kind}
use Rattle.value_type.specs.declared.poset.Types.{Types}

abbrev pub kinds_of : List Outline → List Kind
kinds_of outlines = map (λ o. o.kind) outlines

module _ (t : Types) (front : List ℕ → Option Front) (params : List Wanted) where
  -- the ports that are known of what a branch names
  abbrev pub known_at : BranchTree → Outlines
  known_at b = ports_by front (param_named params (name_of b.reference)) (name_of b.reference)

  -- the wiring of a net, as far as it is known
  abbrev pub known_wiring : Content → List BranchTree → Wiring
  known_wiring c instances = record {
    provides = port_kinds c.provides;
    requires_ = port_kinds c.requires_;
    provided = map (λ b. kinds_of (known_at b).provides) instances;
    required = map (λ b. kinds_of (known_at b).requires_) instances;
    constraints = c.constraints;
  }

  pub record IsTypedNetFile (c : Content) (instances : List BranchTree) : Type 0 where
    pub provided_ports : ArePorts t c.provides
    pub required_ports : ArePorts t c.requires_
    pub few_parts : IsFew instances
    pub few_constraints : IsFew c.constraints
    pub each_constraint : Each (ConstraintIsTyped t (known_wiring c instances)) c.constraints

  -- A catalogue is typed; a choice has a branch; and of a net the ports are there, and both sides of each constraint are of one type.
  abbrev pub IsTypedFile : Content → BodyTree → Type 0
  IsTypedFile c (body.Catalogue ports rows table) = IsTypedCat t c.provides c.requires_ c.rows
  IsTypedFile c (body.Choose branches) = (0 < length branches) × IsFew branches
  IsTypedFile c (body.Net ports instances rules) = IsTypedNetFile c instances
