-- That the lists of what is read decide the tests.
use Rattle.std.specs.List.{list_any}
use Rattle.std.specs.Prelude.{ℕ, Bool, List}
use Rattle.cut_plan.specs.declared.reads.Signal.{Signal}

abbrev pub any_of : (ℕ → ℕ → Bool) → List Signal → Bool
any_of test signals = list_any (λ s. test s.part s.port) signals
