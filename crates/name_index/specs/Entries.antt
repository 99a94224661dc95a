-- What contracts see of a map from strings.
use Rattle.std.specs.Prelude.{ℕ, List, map, String, string_bytes}

-- the names as texts, with their numbers
abbrev pub entries_of : {Z : Type 0} → List (String Z × ℕ) → List (List ℕ × ℕ)
entries_of entries = map (λ entry. (string_bytes entry.0, entry.1)) entries
