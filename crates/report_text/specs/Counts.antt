-- What the text of a count in a unit says.
use Rattle.std.specs.Prelude.{◌≡◌, ℕ, List, ◌∷◌, ◌++◌}
use Rattle.report_text.specs.Texts.{ratio_text}
use Rattle.unit_core.specs.Ratio.{IsInLowestTerms, Ratio}

-- The text is a fraction in lowest terms, the count over the unit's size, and after a space the unit.
abbrev pub IsFractionText : ℕ → ℕ → List ℕ → List ℕ → Type 0
IsFractionText count size unit text = (r : Ratio) × IsInLowestTerms count size r × (text ≡ ratio_text r ++ 32 ∷ unit)
