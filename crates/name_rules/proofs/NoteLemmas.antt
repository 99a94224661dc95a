-- Faults of two lists, noted one after the other.
use Rattle.std.proofs.Common.{◌≡◌, ◌∙◌, ◌<◌, ◌+◌, refl, sym, ap, ℕ, List, ◌∷◌, ◌++◌, drop, length, get_or}
use Rattle.std.proofs.lemmas.List.{drop_more}
use Rattle.std.specs.List.{flat_map}
use Rattle.std.specs.Prelude.{Option}
use Rattle.fault_list.specs.Faults.{earlier, least}
use Rattle.fault_list.specs.FaultLaws.{earlier_of_three, least_joined}
use Rattle.fault_list.specs.declared.fault.Fault.{Fault}

pub noted_both : (xs ys : List Fault) (first middle last : Option Fault) → middle ≡ earlier first (least xs) → last ≡ earlier middle (least ys) → last ≡ earlier first (least (xs ++ ys))
noted_both xs ys first middle last e f =
    f ∙ ap (λ (m : Option Fault). earlier m (least ys)) e ∙ sym (earlier_of_three first (least xs) (least ys)) ∙ ap (earlier first) (sym (least_joined xs ys))

-- The faults of each item of a list that is gone through: those of what is left decide.
pub left_next : {A : Type 0} (faults : A → List Fault) (items : List A) (i : ℕ) (x : A) → i < length items → x ≡ get_or items i x → (first next whole : Option Fault)
    → earlier first (least (flat_map faults (drop i items))) ≡ whole → next ≡ earlier first (least (faults x)) → earlier next (least (flat_map faults (drop (i + 1) items))) ≡ whole
left_next {A = A} faults items i x inside is first next whole h e =
    noted_both (faults x) (flat_map faults (drop (i + 1) items)) first next (earlier next (least (flat_map faults (drop (i + 1) items)))) e refl
    ∙ ap (λ (xs : List A). earlier first (least (flat_map faults xs))) (sym (drop_more items i x inside ∙ ap (λ (y : A). y ∷ drop (i + 1) items) (sym is))) ∙ h
