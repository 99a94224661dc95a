-- The names and types of ports, which are what is compared of them.
use Rattle.std.specs.Prelude.{ℕ, Bool, true, false, ◌&&◌, List, [], ◌∷◌, map}
use Rattle.std.specs.Str.{bytes_eq}
use Rattle.design_model.specs.Parts.{provided_ports, required_ports}
use Rattle.design_model.specs.declared.design.Design.{Design}
use Rattle.value_type.specs.SameForm.{same_kind}
use Rattle.value_type.specs.declared.kind.Kind.{Kind}
use Rattle.value_type.specs.declared.port.Port.{Port}

-- What is compared of a port: its name and its type.
pub record Outline : Type 0 where
  pub name : List ℕ
  pub kind : Kind

-- The provided and the required ports.
pub record Outlines : Type 0 where
  pub provides : List Outline
  pub requires_ : List Outline

abbrev pub outlines : List Port → List Outline
outlines ports = map (λ p. record { name = p.name; kind = p.kind }) ports

-- the names and types of a design's ports
abbrev pub outlines_of : Design → Outlines
outlines_of d = record { provides = outlines (provided_ports d); requires_ = outlines (required_ports d) }

abbrev pub same_outline : Outline → Outline → Bool
same_outline a b = bytes_eq a.name b.name && same_kind a.kind b.kind

abbrev pub same_list : List Outline → List Outline → Bool
same_list [] [] = true
same_list [] (b ∷ bs) = false
same_list (a ∷ as_) [] = false
same_list (a ∷ as_) (b ∷ bs) = same_outline a b && same_list as_ bs

-- The ports have the same names and types in the same order.
abbrev pub same_outlines : Outlines → Outlines → Bool
same_outlines a b = same_list a.provides b.provides && same_list a.requires_ b.requires_
