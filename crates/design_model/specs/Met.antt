-- Which designs within a design are met at a query.
use Rattle.std.specs.Prelude.{◌≡◌, ℕ, IsSomeAnd, List, [], ◌∷◌, slice_get}
use Rattle.value_type.specs.declared.poset.Types.{Types}
use Rattle.design_model.specs.declared.design.Design.{Design, out-Design}
use Rattle.design_model.specs.declared.design.Design.TheOpen.{Design-F}
use Rattle.design_model.specs.declared.design.Part.{Part}
use Rattle.design_model.specs.Rows.{Row}
use Rattle.design_model.specs.Steady.{NetOf, net_of}
use Rattle.design_model.specs.SteadyLaws.{IsSteadyIn, StepsIn, EndsLeastIn, Asks}

-- The net is steady at f, and a step from a least end to itself asks the part for the row.
pub record AsksPart (t : Types) (n : ℕ) (net : NetOf) (f : Row) (i : ℕ) (row : Row) : Type 0 where
  pub steady : IsSteadyIn t n net f
  pub state : Row
  pub ends : EndsLeastIn t n net f n state
  pub steps : StepsIn t n net f state state
  pub asks : Asks t n net f state i row

-- Through a choice that is met at f each branch is met at f, and through a net each part at what it is asked for.
abbrev pub MetThrough : Types → ℕ → ℕ → Row → (Part → Row → Type 0) → Design-F Design Part → Type 0
MetThrough t n i f Met (Design-F.Cat provides requires_ rows) = ⊥
MetThrough t n i f Met (Design-F.Choice provides requires_ branches) = IsSomeAnd (slice_get branches i) (λ branch. Met branch f)
MetThrough t n i f Met (Design-F.Net provides requires_ parts constraints) =
    (row : Row) × AsksPart t n (net_of provides requires_ parts constraints) f i row
    × IsSomeAnd (slice_get parts i) (λ part. Met part row)

-- Where the design is met at f, the inner design at this path is met at g. A path gives the numbers of branches and parts that lead from the one to the other.
unfoldable pub IsMet : Types → ℕ → List ℕ → Design → Row → Design → Row → Type 0
IsMet t n [] design f inner g = (design ≡ inner) × (f ≡ g)
IsMet t n (i ∷ path) design f inner g = MetThrough t n i f (λ part row. IsMet t n path part.design row inner g) (out-Design design)
