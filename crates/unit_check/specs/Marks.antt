-- Which ports of a net's parts the places of rules name.
use Rattle.std.specs.Prelude.{◌≡◌, ◌<◌, ℕ, List, [], ◌∷◌, Option, Some, None, length, set, slice_index_or}
use Rattle.design_lexer.specs.declared.tree.NameAt.{NameAt}
use Rattle.design_lexer.specs.declared.tree.PlaceTree.{PlaceTree}
use Rattle.name_index.specs.Names.{with_name}

-- for each part, by its number, the names of its ports that are marked
abbrev pub Marks : Type 0
Marks = List (List (List ℕ × ℕ))

-- with this port of the part of this number marked, if both are there
abbrev pub marked_at : Marks → Option ℕ → Option NameAt → Marks
marked_at marks (Some k) (Some port) = set marks k (with_name (slice_index_or marks k []) port.name 0)
marked_at marks (Some k) None = marks
marked_at marks None port = marks

-- with the port that the place names marked
abbrev pub marked : (List ℕ → Option ℕ) → Marks → PlaceTree → Marks
marked find marks place = marked_at marks (find place.first.name) place.second

abbrev pub all_marked : (List ℕ → Option ℕ) → Marks → List PlaceTree → Marks
all_marked find marks [] = marks
all_marked find marks (place ∷ places) = all_marked find (marked find marks place) places

-- Each name that is found has a number of which there are marks.
abbrev pub AreFew : (List ℕ → Option ℕ) → Marks → Type 0
AreFew find marks = (name : List ℕ) (k : ℕ) → find name ≡ Some k → k < length marks
