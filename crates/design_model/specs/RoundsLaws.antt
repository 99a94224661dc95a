-- When each kind of design is feasible in a number of rounds.
use Rattle.std.specs.Prelude.{◌≡◌, ℕ, List}
use Rattle.std.proofs.Common.{refl, sym, ap, ◌∙◌}
use Rattle.order_core.specs.PointwiseLaws.{Pointwise-map, at-map}
use Rattle.value_type.specs.declared.port.Port.{Port}
use Rattle.value_type.specs.declared.poset.Types.{Types}
use Rattle.design_model.specs.declared.design.CatRow.{CatRow}
use Rattle.design_model.specs.declared.design.Design.{Design, out-Design, roll-out-Design, rec-Design, rec-roll-Design, map-Design}
use Rattle.design_model.specs.declared.design.Design.TheOpen.{Design-F}
use Rattle.design_model.specs.declared.design.Design.TheVariants.{Cat, Choice, Net, outs-Cat, outs-Choice, outs-Net}
use Rattle.design_model.specs.declared.design.Part.{Part, out-Part, rec-Part, rec-roll-Part}
use Rattle.design_model.specs.declared.expr.Constraint.{Constraint}
use Rattle.design_model.specs.Holds.{Fit}
use Rattle.design_model.specs.Parts.{provided_at, required_at, provided_ports, required_ports}
use Rattle.design_model.specs.PartsLaws.{wiring_natural}
use Rattle.design_model.specs.Rounds.{IsFeasibleIn, FeasibleAt, FeasibleAtPart, SomeRow, SomeBranch, SomeEnds, EachFeasible}
use Rattle.design_model.specs.Rows.{Row}
use Rattle.design_model.specs.Wiring.{wiring_of, Carried}

abbrev At : Type 1
At = Row → Row → Type 0

module _ (X Y : Type 0) (design : X → Design) (part : Y → Part) (t : Types) (n : ℕ) (feasible : Design → At) (feasible_part : Part → At) where
  rounds_natural : (x : Design-F X Y) → FeasibleAt t n X Y design part (λ d. feasible (design d)) (λ p. feasible_part (part p)) x
      ≡ FeasibleAt t n Design Part (λ d. d) (λ p. p) feasible feasible_part (map-Design X Y Design Part design part x)
  rounds_natural (Design-F.Cat provides requires_ rows) = refl
  rounds_natural (Design-F.Choice provides requires_ branches) =
      λ i f r. Fit t provides requires_ f r × ((number : ℕ) × at-map part (λ b. feasible_part b f r) branches number i)
  rounds_natural (Design-F.Net provides requires_ parts constraints) = λ i f r. Fit t provides requires_ f r
      × SomeEnds t (wiring_natural Y part provides requires_ parts constraints i) (λ carried. Pointwise-map part (λ p (c : Carried). feasible_part p c.provided c.required) parts carried i) f n r

feasible_of_part : (t : Types) (n : ℕ) (p : Part) → rec-Part At At (FeasibleAt t n) FeasibleAtPart p ≡ IsFeasibleIn t n p.design
unfolding IsFeasibleIn
feasible_of_part t n p = rec-roll-Part At At (FeasibleAt t n) FeasibleAtPart (λ X Y v v' k k' x. refl) (out-Part p)

IsFeasibleIn-out : (t : Types) (n : ℕ) (d : Design) → IsFeasibleIn t n d ≡ FeasibleAt t n Design Part (λ d. d) (λ p. p) (IsFeasibleIn t n) (λ p. IsFeasibleIn t n p.design) (out-Design d)
unfolding IsFeasibleIn
IsFeasibleIn-out t n d =
    ap (rec-Design At At (FeasibleAt t n) FeasibleAtPart) (sym (roll-out-Design d))
    ∙ rec-roll-Design At At (FeasibleAt t n) FeasibleAtPart (λ X Y v v' k k' x. rounds_natural X Y v v' t n k k' x) (out-Design d)
    ∙ λ i. FeasibleAt t n Design Part (λ d. d) (λ p. p) (IsFeasibleIn t n) (λ p. feasible_of_part t n p i) (out-Design d)

pub IsFeasibleIn-Cat : (t : Types) (n : ℕ) (provides requires_ : List Port) (rows : List CatRow) (f r : Row)
    → IsFeasibleIn t n (Cat provides requires_ rows) f r ≡ (Fit t provides requires_ f r × SomeRow t provides requires_ rows f r)
IsFeasibleIn-Cat t n provides requires_ rows f r = rw (IsFeasibleIn-out, outs-Cat)

pub IsFeasibleIn-Choice : (t : Types) (n : ℕ) (provides requires_ : List Port) (branches : List Part) (f r : Row)
    → IsFeasibleIn t n (Choice provides requires_ branches) f r ≡ (Fit t provides requires_ f r × SomeBranch (λ b. IsFeasibleIn t n b.design) branches f r)
IsFeasibleIn-Choice t n provides requires_ branches f r = rw (IsFeasibleIn-out, outs-Choice)

pub IsFeasibleIn-Net : (t : Types) (n : ℕ) (provides requires_ : List Port) (parts : List Part) (constraints : List Constraint) (f r : Row)
    → IsFeasibleIn t n (Net provides requires_ parts constraints) f r
    ≡ (Fit t provides requires_ f r × SomeEnds t (wiring_of (λ p. p) provides requires_ parts constraints) (EachFeasible (λ p. IsFeasibleIn t n p.design) parts) f n r)
IsFeasibleIn-Net t n provides requires_ parts constraints f r = rw (IsFeasibleIn-out, outs-Net)

-- Rows that don't fit the ports are feasible in no number of rounds.
pub feasible_in_fits : (t : Types) (n : ℕ) (d : Design) (f r : Row) → IsFeasibleIn t n d f r → Fit t (provided_ports d) (required_ports d) f r
feasible_in_fits t n d f r h = at (out-Design d) (rw IsFeasibleIn-out at h)
  where
    at : (x : Design-F Design Part) → FeasibleAt t n Design Part (λ d. d) (λ p. p) (IsFeasibleIn t n) (λ p. IsFeasibleIn t n p.design) x f r → Fit t (provided_at x) (required_at x) f r
    at (Design-F.Cat provides requires_ rows) k = k.0
    at (Design-F.Choice provides requires_ branches) k = k.0
    at (Design-F.Net provides requires_ parts constraints) k = k.0
