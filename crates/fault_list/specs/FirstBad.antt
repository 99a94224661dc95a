-- What a check of items in order answers, where the rules are relations: all before are good, and this one is bad.
use Rattle.std.specs.Prelude.{◌≡◌, List, ◌∷◌, ◌++◌, Result, Ok, Err}
use Rattle.fault_list.specs.declared.fault.Stop.{Stop}
use Rattle.fault_list.specs.declared.fault.Stop.TheVariants as stop
use Rattle.order_core.specs.Pointwise.{Each}

-- All items before are good, and of this item it is a fault.
pub record IsFirstBad {A F : Type 0} (Good : A → Type 0) (Bad : A → F → Type 0) (items : List A) (fault : F) : Type 0 where
  pub before : List A
  pub bad : A
  pub after : List A
  pub are : items ≡ before ++ bad ∷ after
  pub good : Each Good before
  pub is_bad : Bad bad fault

-- All items are good, and the value is what is meant; or this is the fault of the first bad item. Want of memory says nothing.
abbrev pub AnswersFirst : {A B F : Type 0} → (A → Type 0) → (A → F → Type 0) → List A → (B → Type 0) → Result B (Stop F) → Type 0
AnswersFirst Good Bad items Meant (Ok x) = Each Good items × Meant x
AnswersFirst Good Bad items Meant (Err (stop.At fault)) = IsFirstBad Good Bad items fault
AnswersFirst Good Bad items Meant (Err stop.Memory) = Unit {0}

-- Something with the first property, or a fault with the second. Want of memory says nothing.
abbrev pub AnswersBy : {A F : Type 0} → (A → Type 0) → (F → Type 0) → Result A (Stop F) → Type 0
AnswersBy Good Bad (Ok x) = Good x
AnswersBy Good Bad (Err (stop.At fault)) = Bad fault
AnswersBy Good Bad (Err stop.Memory) = Unit {0}
