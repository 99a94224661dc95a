-- Terms one after the other, as one term.
use Rattle.std.specs.Prelude.{ℕ, zero, suc, List, [], ◌∷◌, length}
use Rattle.design_term.specs.declared.term.Term.TheVariants as term
use Rattle.design_term.specs.declared.term.Term.{Term}

-- each two neighbours in a series
abbrev pub pairs : List Term → List Term
pairs [] = []
pairs (a ∷ []) = a ∷ []
pairs (a ∷ b ∷ rest) = term.Series a b ∷ pairs rest

-- pairs, pairs of pairs and so on, so many times, and then the first term
abbrev pub joined_in : ℕ → List Term → Term
joined_in zero [] = term.Alt []
joined_in zero (a ∷ rest) = a
joined_in (suc n) terms = joined_in n (pairs terms)

-- The terms in series. No term of n is deeper in it than the number of digits of n.
abbrev pub joined : List Term → Term
joined terms = joined_in (length terms) terms
