-- The sides of ports.
use Rattle.std.specs.Prelude.{Bool, true, false}
use Rattle.design_lexer.specs.declared.tree.Side.{Side}
use Rattle.design_lexer.specs.declared.tree.Side.TheVariants.{Provides, Requires}

abbrev pub same_side : Side → Side → Bool
same_side Provides Provides = true
same_side Requires Requires = true
same_side _ _ = false
