-- What lists the cut signals of a net.
use Rattle.std.specs.Prelude.{◌≡◌, ℕ, ◌<◌, List, length}
use Rattle.cut_plan.specs.declared.reads.Signal.{Signal}
use Rattle.cut_plan.specs.CutReads.{is_listed}
use Rattle.design_model.specs.declared.expr.Constraint.{Constraint}
use Rattle.design_model.specs.Cuts.{Signal as Typed, is_cut}
use Rattle.design_model.specs.Wiring.{Wiring}

-- In a net with `count` parts and these constraints the list has exactly the ports with a cut read.
abbrev pub ListsCuts : List Constraint → ℕ → List Signal → Type 0
ListsCuts constraints count cut =
    (net : Wiring) → net.constraints ≡ constraints → length net.provided ≡ count → (s : Typed) → s.part < count → is_cut net s ≡ is_listed cut s.part s.port
