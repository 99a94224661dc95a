-- When a term is typed: from the types of its inputs to those of its outputs.
use Rattle.std.specs.Prelude.{◌≡◌, ◌<◌, IsTrue, List, ◌++◌, length, None, Some, slice_get}
use Rattle.order_core.specs.Pointwise.{Each, Pointwise}
use Rattle.value_type.specs.declared.kind.Kind.{Kind}
use Rattle.value_type.specs.declared.poset.Types.{Types}
use Rattle.value_type.specs.Fits.{row_fits}
use Rattle.design_model.specs.declared.design.CatRow.{CatRow}
use Rattle.design_model.specs.ExprKinds.{PortTypes, is_of_kind}
use Rattle.design_term.specs.declared.term.Primitive.{Primitive}
use Rattle.design_term.specs.declared.term.Primitive.TheVariants as prim
use Rattle.design_term.specs.declared.term.Target.{Target}
use Rattle.design_term.specs.declared.term.Term.{Term, rec-Term}
use Rattle.design_term.specs.declared.term.Term.TheOpen.{Term-F}
use Rattle.design_term.specs.Outcomes.{AreSideBySide}

-- The types of what an expression over an input may read: the input's places, as own ports, and nothing else.
abbrev pub places_of : List Kind → PortTypes
places_of ins = record { own = slice_get ins; inner = λ part port. None }

-- The target's place is there, and its expression is of that place's type and reads the input alone.
pub record TargetIsTyped (t : Types) (ins outs : List Kind) (target : Target) : Type 0 where
  pub kind : Kind
  pub place : slice_get outs target.place ≡ Some kind
  pub lower : IsTrue (is_of_kind t (places_of ins) target.lower kind)

-- The row has one value of each type.
pub record RowIsTyped (t : Types) (provided required : List Kind) (row : CatRow) : Type 0 where
  pub provides : IsTrue (row_fits t provided row.provided)
  pub requires_ : IsTrue (row_fits t required row.required)

-- The primitive term is typed from these types of inputs to these types of outputs.
abbrev pub PrimIsTyped : Types → Primitive → List Kind → List Kind → Type 0
PrimIsTyped t (prim.Keep kinds places) ins outs = (outs ≡ kinds) × Pointwise (λ place kind. slice_get ins place ≡ Some kind) places kinds
PrimIsTyped t (prim.Rows provided required rows) ins outs = (ins ≡ provided) × (outs ≡ required) × Each (RowIsTyped t provided required) rows
PrimIsTyped t (prim.Above kinds targets) ins outs = (outs ≡ kinds) × Each (TargetIsTyped t ins kinds) targets

-- One level of a term. X stands for the inner terms: `term` gives the term that an X is, and `typed` says when it is typed.
abbrev pub TermIsTypedAt : Types → (X : Type 0) → (X → Term) → (X → List Kind → List Kind → Type 0) → Term-F X → List Kind → List Kind → Type 0
TermIsTypedAt t X term typed (Term-F.Prim prim) ins outs = PrimIsTyped t prim ins outs
TermIsTypedAt t X term typed (Term-F.Sub part inner) ins outs = typed inner ins outs
TermIsTypedAt t X term typed (Term-F.Series a b) ins outs = (middle : List Kind) × typed a ins middle × typed b middle outs
TermIsTypedAt t X term typed (Term-F.Par a b) ins outs = AreSideBySide (typed a ins) (typed b ins) outs
TermIsTypedAt t X term typed (Term-F.Alt terms) ins outs = (0 < length terms) × Each (λ term. typed term ins outs) terms
TermIsTypedAt t X term typed (Term-F.Loop state body) ins outs = (outs ≡ state) × typed body (ins ++ state) state

-- The term is typed from these types of inputs to these types of outputs.
unfoldable pub TermIsTyped : Types → Term → List Kind → List Kind → Type 0
TermIsTyped t = rec-Term (List Kind → List Kind → Type 0) (TermIsTypedAt t)
