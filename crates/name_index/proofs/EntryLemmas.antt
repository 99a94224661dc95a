-- A look-up in a map from strings is one in the list of its names.
use Rattle.std.proofs.Common.{◌≡◌, refl, ℕ, Bool, true, false, cond, List, [], ◌∷◌}
use Rattle.std.specs.Prelude.{Some, String, string_bytes}
use Rattle.std.specs.Str.{bytes_eq}
use Rattle.std.specs.Map.{lookup}
use Rattle.name_index.specs.Entries.{entries_of}
use Rattle.name_index.specs.Names.{number_of}

pub found_again : {Z : Type 0} (entries : List (String Z × ℕ)) (name : List ℕ) → lookup (λ key. bytes_eq name (string_bytes key)) entries ≡ number_of (entries_of entries) name
found_again [] name = refl
found_again (e ∷ entries) name = go (bytes_eq name (string_bytes e.0)) (found_again entries name)
  where
    go : (t : Bool) → lookup (λ key. bytes_eq name (string_bytes key)) entries ≡ number_of (entries_of entries) name
        → cond t (Some e.1) (lookup (λ key. bytes_eq name (string_bytes key)) entries) ≡ cond t (Some e.1) (number_of (entries_of entries) name)
    go true later = refl
    go false later = later
