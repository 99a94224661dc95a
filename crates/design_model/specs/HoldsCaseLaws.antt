-- What a witness is, by the kind of design that holds with it.
use Rattle.std.proofs.Common.{refl, sym, ap, ◌∙◌}
use Rattle.std.specs.Prelude.{◌≡◌, ◌↔◌, ℕ, Bool, IsTrue, IsSomeAnd, List, slice_get}
use Rattle.design_model.specs.Holds.{Layer, Fit, Holds, RowHolds, HoldsByRow, HoldsByBranch, HoldsByParts, PartHolds, PartsHold}
use Rattle.design_model.specs.HoldsLaws.{Holds-Cat, Holds-Choice, Holds-Net}
use Rattle.design_model.specs.Rows.{Row}
use Rattle.design_model.specs.Wiring.{Wiring, wiring_of}
use Rattle.design_model.specs.declared.design.CatRow.{CatRow}
use Rattle.design_model.specs.declared.design.Design.TheVariants.{Cat, Choice, Net}
use Rattle.design_model.specs.declared.design.Part.{Part}
use Rattle.design_model.specs.declared.expr.Constraint.{Constraint}
use Rattle.design_model.specs.declared.witness.PartWitness.{PartWitness}
use Rattle.design_model.specs.declared.witness.Witness.TheOpen.{Witness-F}
use Rattle.design_model.specs.declared.witness.Witness.TheVariants as witness
use Rattle.design_model.specs.declared.witness.Witness.{Witness, out-Witness, roll-Witness, roll-out-Witness}
use Rattle.order_core.specs.Pointwise.{Pointwise}
use Rattle.value_type.specs.declared.port.Port.{Port}
use Rattle.value_type.specs.declared.poset.Types.{Types}

seen : (w : Witness) (x : Layer) → out-Witness w ≡ x → w ≡ roll-Witness x
seen w x e = sym (roll-out-Witness w) ∙ ap roll-Witness e

-- A catalogue holds by a row.
module _ (t : Types) (provides requires_ : List Port) (rows : List CatRow) (f r : Row) where
  pub by_row : (w : Witness) → HoldsByRow t provides requires_ rows f r (out-Witness w)
      → (number : ℕ) × (w ≡ witness.Row number) × IsSomeAnd (slice_get rows number) (RowHolds t provides requires_ f r)
  by_row w h = go (out-Witness w) refl h
    where
      go : (x : Layer) → out-Witness w ≡ x → HoldsByRow t provides requires_ rows f r x
          → (number : ℕ) × (w ≡ witness.Row number) × IsSomeAnd (slice_get rows number) (RowHolds t provides requires_ f r)
      go (Witness-F.Row number) e k = (number, seen w (Witness-F.Row number) e ∙ witness.rolls-Row number, k)
      go (Witness-F.Branch number inner) e k = absurd k
      go (Witness-F.Inner ws) e k = absurd k

  pub of_row : (number : ℕ) → IsSomeAnd (slice_get rows number) (RowHolds t provides requires_ f r) → HoldsByRow t provides requires_ rows f r (out-Witness (witness.Row number))
  of_row number h = rw witness.outs-Row h

  pub row_decides : (b : Bool) (number : ℕ) → Fit t provides requires_ f r → IsTrue b ↔ IsSomeAnd (slice_get rows number) (RowHolds t provides requires_ f r)
      → IsTrue b ↔ Holds t (Cat provides requires_ rows) f r (witness.Row number)
  row_decides b number fit d = rw Holds-Cat (rw witness.outs-Row ((λ e. (fit, d.0 e)), λ h. d.1 h.1))

  pub no_row : (w : Witness) → ((number : ℕ) → w ≡ witness.Row number → ⊥) → Holds t (Cat provides requires_ rows) f r w → ⊥
  no_row w other h = let k = by_row w (rw Holds-Cat at h).1 in other k.0 k.1

-- A choice holds by a branch.
module _ (t : Types) (provides requires_ : List Port) (branches : List Part) (f r : Row) where
  pub by_branch : (w : Witness) → HoldsByBranch (λ b. Holds t b.design) branches f r (out-Witness w)
      → (number : ℕ) × (inner : Witness) × (w ≡ witness.Branch number inner) × IsSomeAnd (slice_get branches number) (λ b. Holds t b.design f r inner)
  by_branch w h = go (out-Witness w) refl h
    where
      go : (x : Layer) → out-Witness w ≡ x → HoldsByBranch (λ b. Holds t b.design) branches f r x
          → (number : ℕ) × (inner : Witness) × (w ≡ witness.Branch number inner) × IsSomeAnd (slice_get branches number) (λ b. Holds t b.design f r inner)
      go (Witness-F.Row number) e k = absurd k
      go (Witness-F.Branch number inner) e k = (number, inner, seen w (Witness-F.Branch number inner) e ∙ witness.rolls-Branch number inner, k)
      go (Witness-F.Inner ws) e k = absurd k

  pub branch_decides : (b : Bool) (number : ℕ) (inner : Witness) → Fit t provides requires_ f r → IsTrue b ↔ IsSomeAnd (slice_get branches number) (λ p. Holds t p.design f r inner)
      → IsTrue b ↔ Holds t (Choice provides requires_ branches) f r (witness.Branch number inner)
  branch_decides b number inner fit d = rw Holds-Choice (rw witness.outs-Branch ((λ e. (fit, d.0 e)), λ h. d.1 h.1))

  pub no_branch : (w : Witness) → ((number : ℕ) (inner : Witness) → w ≡ witness.Branch number inner → ⊥) → Holds t (Choice provides requires_ branches) f r w → ⊥
  no_branch w other h = let k = by_branch w (rw Holds-Choice at h).1 in other k.0 k.1 k.2

-- A net holds by its parts.
module _ (t : Types) (provides requires_ : List Port) (parts : List Part) (constraints : List Constraint) (f r : Row) where
  abbrev net : Wiring
  net = wiring_of (λ p. p) provides requires_ parts constraints

  abbrev EachHolds : List PartWitness → Type 0
  EachHolds = Pointwise (PartHolds (λ p. Holds t p.design)) parts

  pub by_parts : (w : Witness) → HoldsByParts t net EachHolds f r (out-Witness w) → (ws : List PartWitness) × (w ≡ witness.Inner ws) × PartsHold t net EachHolds f r ws
  by_parts w h = go (out-Witness w) refl h
    where
      go : (x : Layer) → out-Witness w ≡ x → HoldsByParts t net EachHolds f r x → (ws : List PartWitness) × (w ≡ witness.Inner ws) × PartsHold t net EachHolds f r ws
      go (Witness-F.Row number) e k = absurd k
      go (Witness-F.Branch number inner) e k = absurd k
      go (Witness-F.Inner ws) e k = (ws, seen w (Witness-F.Inner ws) e ∙ witness.rolls-Inner ws, k)

  pub parts_decide : (b : Bool) (ws : List PartWitness) → Fit t provides requires_ f r → IsTrue b ↔ PartsHold t net EachHolds f r ws
      → IsTrue b ↔ Holds t (Net provides requires_ parts constraints) f r (witness.Inner ws)
  parts_decide b ws fit d = rw Holds-Net (rw witness.outs-Inner ((λ e. (fit, d.0 e)), λ h. d.1 h.1))

  pub no_parts : (w : Witness) → ((ws : List PartWitness) → w ≡ witness.Inner ws → ⊥) → Holds t (Net provides requires_ parts constraints) f r w → ⊥
  no_parts w other h = let k = by_parts w (rw Holds-Net at h).1 in other k.0 k.1
