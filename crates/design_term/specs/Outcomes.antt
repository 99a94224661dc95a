-- What a term relates: an input to its outputs.
use Rattle.std.specs.Prelude.{◌≡◌, ℕ, IsTrue, IsSomeAnd, List, [], ◌∷◌, ◌++◌, Option, Some, slice_get}
use Rattle.order_core.specs.Chains.{EndsChain}
use Rattle.order_core.specs.Pointwise.{Each}
use Rattle.value_type.specs.declared.kind.Kind.{Kind}
use Rattle.value_type.specs.declared.poset.Types.{Types}
use Rattle.value_type.specs.Fits.{row_fits}
use Rattle.value_type.specs.Leq.{row_leq}
use Rattle.design_model.specs.declared.design.CatRow.{CatRow}
use Rattle.design_model.specs.Rows.{Row}
use Rattle.design_model.specs.ValueOf.{reads_of, value_of, with_first}
use Rattle.design_model.specs.Wiring.{IsAtLeast}
use Rattle.design_term.specs.declared.term.Primitive.{Primitive}
use Rattle.design_term.specs.declared.term.Primitive.TheVariants as prim
use Rattle.design_term.specs.declared.term.Target.{Target}
use Rattle.design_term.specs.declared.term.Term.{Term, rec-Term}
use Rattle.design_term.specs.declared.term.Term.TheOpen.{Term-F}

-- the values at these places, if each is there
abbrev pub values_at : List ℕ → Row → Option Row
values_at [] x = Some []
values_at (place ∷ places) x = with_first (slice_get x place) (values_at places x)

-- The output fits, and is at least the input's values at these places.
pub record Keeps (t : Types) (kinds : List Kind) (places : List ℕ) (x y : Row) : Type 0 where
  pub fits : IsTrue (row_fits t kinds y)
  pub at_least : IsSomeAnd (values_at places x) (λ kept. IsTrue (row_leq t kinds kept y))

-- The row provides at least the input and requires at most the output.
pub record RowGives (t : Types) (provided required : List Kind) (x y : Row) (row : CatRow) : Type 0 where
  pub enough : IsTrue (row_leq t provided x row.provided)
  pub within : IsTrue (row_leq t required row.required y)

-- The output fits, and one of the rows gives it.
pub record RowsGive (t : Types) (provided required : List Kind) (rows : List CatRow) (x y : Row) : Type 0 where
  pub fits : IsTrue (row_fits t required y)
  pub some : (number : ℕ) × IsSomeAnd (slice_get rows number) (RowGives t provided required x y)

-- At the target's place the output is at least what the target's expression is worth at the input.
abbrev pub Meets : Types → List Kind → Row → Row → Target → Type 0
Meets t kinds x y target = IsAtLeast t (slice_get kinds target.place) (slice_get y target.place) (value_of target.lower (reads_of x []))

-- The output fits, and meets each target.
pub record IsAbove (t : Types) (kinds : List Kind) (targets : List Target) (x y : Row) : Type 0 where
  pub fits : IsTrue (row_fits t kinds y)
  pub each : Each (Meets t kinds x y) targets

-- The primitive term relates the input to the output.
abbrev pub Gives : Types → Primitive → Row → Row → Type 0
Gives t (prim.Keep kinds places) x y = Keeps t kinds places x y
Gives t (prim.Rows provided required rows) x y = RowsGive t provided required rows x y
Gives t (prim.Above kinds targets) x y = IsAbove t kinds targets x y

-- The list is one that has the first property, followed by one that has the second.
pub record AreSideBySide {A : Type 0} (First Second : List A → Type 0) (all : List A) : Type 0 where
  pub left : List A
  pub right : List A
  pub first : First left
  pub second : Second right
  pub joined : all ≡ left ++ right

-- One level of a term. X stands for the inner terms: `term` gives the term that an X is, and `relates` says what it relates.
abbrev pub RelatesAt : Types → ℕ → (X : Type 0) → (X → Term) → (X → Row → Row → Type 0) → Term-F X → Row → Row → Type 0
RelatesAt t n X term relates (Term-F.Prim prim) x y = Gives t prim x y
RelatesAt t n X term relates (Term-F.Sub part inner) x y = relates inner x y
RelatesAt t n X term relates (Term-F.Series a b) x y = (middle : Row) × relates a x middle × relates b middle y
RelatesAt t n X term relates (Term-F.Par a b) x y = AreSideBySide (relates a x) (relates b x) y
RelatesAt t n X term relates (Term-F.Alt terms) x y = (number : ℕ) × IsSomeAnd (slice_get terms number) (λ term. relates term x y)
RelatesAt t n X term relates (Term-F.Loop state body) x y = EndsChain (row_fits t state) (row_leq t state) (λ before after. relates body (x ++ before) after) n y

-- The term relates the input to the output, where each loop takes n steps.
unfoldable pub Relates : Types → ℕ → Term → Row → Row → Type 0
Relates t n = rec-Term (Row → Row → Type 0) (RelatesAt t n)
