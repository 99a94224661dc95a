-- Columns of rows one after another.
use Rattle.std.proofs.Common.{refl, ap, ◌∙◌, append_assoc, add-one}
use Rattle.std.proofs.Math.Seq.{drop-cons}
use Rattle.std.proofs.lemmas.List.Elements.{filter_map-append}
use Rattle.std.proofs.lemmas.Simd.{map-map}
use Rattle.std.specs.Prelude.{◌≡◌, ℕ, ◌+◌, ◌<◌, List, [], ◌∷◌, ◌++◌, map, Option, Some, None, option_map, slice_get, filter_map, drop, length, get_or}
use Rattle.cut_plan.specs.Totals.{column, with_column, rows_joined}
use Rattle.design_model.specs.Heights.{Survey, survey, joined}
use Rattle.design_model.specs.HeightsLaws.{of_part, survey-Choice}
use Rattle.design_model.specs.declared.design.CatRow.{CatRow}
use Rattle.design_model.specs.declared.design.Design.TheVariants.{Choice}
use Rattle.design_model.specs.declared.design.Part.{Part}
use Rattle.order_core.specs.MemberLaws.{append_nil}
use Rattle.value_type.specs.declared.port.Port.{Port}
use Rattle.value_type.specs.declared.poset.Types.{Types}
use Rattle.value_type.specs.declared.value.Value.{Value}

-- After one more branch what is added continues with its column.
pub column_more : (values more : List Value) (first : Option (List CatRow)) (rest : List (Option (List CatRow))) (port : ℕ)
    → with_column values (column first port) ≡ Some more → with_column values (column (joined (first ∷ rest)) port) ≡ with_column more (column (joined rest) port)
column_more values more None rest port h = absurd (cc)
column_more values more (Some rows) rest port h = at (joined rest)
  where
    cell : CatRow → Option Value
    cell row = slice_get row.required port

    same : values ++ filter_map cell rows ≡ more
    same = cc

    at : (o : Option (List CatRow)) → with_column values (column (option_map (λ more. rows ++ more) o) port) ≡ with_column more (column o port)
    at None = refl
    at (Some others) = ap Some (rw (filter_map-append cell rows others, ← append_assoc, same) refl)

-- Without a column of one branch there is none of all.
pub column_none : (values : List Value) (first : Option (List CatRow)) (rest : List (Option (List CatRow))) (port : ℕ)
    → with_column values (column first port) ≡ None → with_column values (column (joined (first ∷ rest)) port) ≡ None
column_none values None rest port h = refl
column_none values (Some rows) rest port h = absurd (cc)

pub rows_step : (t : Types) (branches : List Part) (i : ℕ) (b : Part) → i < length branches → b ≡ get_or branches i b
    → rows_joined t (drop i branches) ≡ joined ((survey t b.design).rows ∷ map (λ b. (survey t b.design).rows) (drop (i + 1) branches))
rows_step t branches i b h e = rw (add-one, drop-cons branches i b h, ← e) refl

pub with_nothing : (values : List Value) → with_column values (Some []) ≡ Some values
with_nothing values = ap Some (append_nil values)

pub after_nothing : (o : Option (List Value)) → with_column [] o ≡ o
after_nothing None = refl
after_nothing (Some values) = refl

pub choice_rows : (t : Types) (provides requires_ : List Port) (branches : List Part) → (survey t (Choice provides requires_ branches)).rows ≡ rows_joined t branches
choice_rows t provides requires_ branches = ap (λ (s : Survey). s.rows) (survey-Choice t provides requires_ branches) ∙ ap joined (map-map (λ (s : Survey). s.rows) (of_part t) branches)
