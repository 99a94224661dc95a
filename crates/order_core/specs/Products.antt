-- What a product's members are, and what it keeps of its lists.
use Rattle.std.proofs.Common.{List, [], ◌∷◌}
use Rattle.order_core.specs.Members.{IsMember}

-- The tuple has one item of each list.
abbrev pub IsPick : {A : Type 0} → List A → List (List A) → Type 0
IsPick [] [] = Unit {0}
IsPick (x ∷ t) (c ∷ cs) = IsMember x c × IsPick t cs
IsPick _ _ = ⊥
