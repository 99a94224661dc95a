-- What a check answers by lists of faults that are put together.
use Rattle.std.proofs.Common.{◌≡◌, ◌∙◌, sym, ap, List, [], ◌++◌}
use Rattle.std.specs.Prelude.{Result, Ok, Err}
use Rattle.fault_list.specs.Answers.{Answers}
use Rattle.fault_list.specs.Faults.{first_fault}
use Rattle.fault_list.specs.FaultLaws.{first_left}
use Rattle.fault_list.specs.declared.fault.Stop.{Stop}
use Rattle.fault_list.specs.declared.fault.Stop.TheVariants as stop

-- The same faults, and a meaning that follows.
pub answers_weaker : {A F : Type 0} (faults others : List F) (Meant Told : A → Type 0) (r : Result A (Stop F)) → faults ≡ others → ((x : A) → Meant x → Told x) → Answers faults Meant r → Answers others Told r
answers_weaker faults others Meant Told (Ok x) e f h = (sym e ∙ h.0, f x h.1)
answers_weaker faults others Meant Told (Err (stop.At fault)) e f h = ap first_fault (sym e) ∙ h
answers_weaker faults others Meant Told (Err stop.Memory) e f h = tt

-- A part of a check that stopped, where all before it passed.
pub stopped_left : {A B F : Type 0} (faults rest whole : List F) (Meant : A → Type 0) (Told : B → Type 0) (s : Stop F) → whole ≡ faults ++ rest → Answers {A = A} faults Meant (Err s) → Answers {A = B} whole Told (Err s)
stopped_left faults rest whole Meant Told (stop.At fault) e h = ap first_fault e ∙ first_left fault faults rest h
stopped_left faults rest whole Meant Told stop.Memory e h = tt

-- A part that passed leaves what is after it.
pub passed_left : {F : Type 0} (faults rest : List F) → faults ≡ [] → faults ++ rest ≡ rest
passed_left faults rest e = ap (λ fs. fs ++ rest) e

-- The same faults, of a check that stopped.
pub stopped_same : {A B F : Type 0} (faults whole : List F) (Meant : A → Type 0) (Told : B → Type 0) (s : Stop F) → whole ≡ faults → Answers {A = A} faults Meant (Err s) → Answers {A = B} whole Told (Err s)
stopped_same faults whole Meant Told (stop.At fault) e h = ap first_fault e ∙ h
stopped_same faults whole Meant Told stop.Memory e h = tt

-- A check that can't find a fault stops for want of memory alone.
pub stopped_none : {A B F : Type 0} (faults whole : List F) (Meant : A → Type 0) (Told : B → Type 0) (s : Stop F) → faults ≡ [] → Answers {A = A} faults Meant (Err s) → Answers {A = B} whole Told (Err s)
stopped_none faults whole Meant Told (stop.At fault) e h = let none = sym h ∙ ap first_fault e in absurd (cc)
stopped_none faults whole Meant Told stop.Memory e h = tt
