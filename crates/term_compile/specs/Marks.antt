-- Which wires are read, by a table of marks.
use Rattle.std.specs.List.{list_any}
use Rattle.std.specs.Prelude.{◌≡◌, ℕ, ◌<◌, Bool, false, not, nat_le, ◌||◌, List, length, get_or}
use Rattle.compiled_term.specs.declared.wire.WireValue.{WireValue}
use Rattle.design_model.specs.declared.expr.Constraint.{Constraint}
use Rattle.expr_residual.specs.Moved.{reads_wire}

-- The wires that have a mark are marked where a constraint reads them.
abbrev pub AreMarks : List Constraint → List Bool → Type 0
AreMarks constraints marks = (k : ℕ) → k < length marks → get_or marks k false ≡ list_any (λ c. reads_wire c.lower k) constraints

-- The wire stays, by the marks.
abbrev pub stays : ℕ → List Bool → ℕ → Bool
stays start marks number = not (nat_le start number) || get_or marks number false

abbrev pub value_stays : ℕ → List Bool → WireValue → Bool
value_stays start marks c = stays start marks c.wire.number
