-- What the code gives, against reading on lists.
use Rattle.std.proofs.Common.{ap, ◌∙◌}
use Rattle.std.specs.Prelude.{◌≡◌, ℕ, Some, None, Result, Ok, Err}
use Rattle.std.specs.Result.{result_err}
use Rattle.design_lexer.specs.Syntax.Gives.{Gives}
use Rattle.design_lexer.specs.declared.syntax.fault.ReadFault.TheVariants as fault
use Rattle.design_lexer.specs.declared.syntax.fault.ReadFault.{ReadFault}

-- the fault of the code is that of reading
pub fault_given : {X Y : Type 0} (view : X → Y) (r : Result X ReadFault) (read : Result Y ℕ) (n : ℕ) → Gives view r read → result_err r ≡ Some (fault.Left n) → read ≡ Err n
fault_given view (Ok x) read n g e = absurd (none_some _ e)
  where
    none_some : (d : ReadFault) → None ≡ Some d → ⊥
    none_some d e = cc
fault_given view (Err fault.Memory) read n g e = absurd (other e)
  where
    other : Some fault.Memory ≡ Some (fault.Left n) → ⊥
    other e = cc
fault_given {Y = Y} view (Err (fault.Left m)) read n g e = g ∙ ap (λ k. err k) (same e)
  where
    err : ℕ → Result Y ℕ
    err k = Err k

    same : Some (fault.Left m) ≡ Some (fault.Left n) → m ≡ n
    same e = cc
