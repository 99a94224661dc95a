-- The posets of a library by their names.
use Rattle.std.specs.Prelude.{ℕ, List, Option}
use Rattle.name_index.specs.Places.{place_of}
use Rattle.value_type.specs.declared.poset.Types.{Types}

-- the place of the first poset of this name
abbrev pub poset_place : Types → List ℕ → Option ℕ
poset_place types name = place_of (λ p. p.name) types.posets name
