-- What a check of one file's spelling notes.
use Rattle.std.proofs.Common.{◌≡◌, ◌∙◌, sym, ap, List, [], ◌++◌}
use Rattle.std.specs.Prelude.{Option, Some, None}
use Rattle.fault_list.specs.Faults.{by_place, earlier, first_fault, least}
use Rattle.fault_list.specs.FaultLaws.{by_place_none, first_by_place, least_joined, least_none}
use Rattle.fault_list.specs.declared.fault.Fault.{Fault}

module _ (xs ys : List Fault) (first middle last : Option Fault) (begins : first ≡ None) (one : middle ≡ earlier first (least xs)) (two : last ≡ earlier middle (least ys)) where
  noted : last ≡ least (xs ++ ys)
  noted = two ∙ ap (λ m. earlier m (least ys)) (one ∙ ap (λ f. earlier f (least xs)) begins) ∙ sym (least_joined xs ys)

  pub first_noted : (fault : Fault) → last ≡ Some fault → first_fault (by_place (xs ++ ys)) ≡ Some fault
  first_noted fault e = first_by_place (xs ++ ys) ∙ sym noted ∙ e

  pub none_noted : last ≡ None → by_place (xs ++ ys) ≡ []
  none_noted e = by_place_none (xs ++ ys) (least_none (xs ++ ys) (sym noted ∙ e))
