-- What is wrong with the names of a library, part by part.
use Rattle.std.proofs.Common.{◌≡◌, ◌∙◌, ap, refl, sym, List, [], ◌++◌}
use Rattle.std.specs.Prelude.{Err}
use Rattle.fault_list.specs.Answers.{Answers}
use Rattle.fault_list.specs.AnswersLaws.{stopped_left}
use Rattle.fault_list.specs.declared.fault.Stop.{Stop}
use Rattle.order_core.specs.MemberLaws.{append_nil}

module _ {F : Type 0} (listing spelling circular : List F) where
  -- A check of the second part that stopped, where the first one passed.
  pub stopped_second : {A B : Type 0} (Meant : A → Type 0) (Told : B → Type 0) (s : Stop F) → listing ≡ [] → Answers {A = A} spelling Meant (Err s) → Answers {A = B} (listing ++ spelling ++ circular) Told (Err s)
  stopped_second Meant Told s none h = stopped_left spelling circular (listing ++ spelling ++ circular) Meant Told s (ap (λ fs. fs ++ spelling ++ circular) none) h

  pub passed_two : listing ≡ [] → spelling ≡ [] → listing ++ spelling ++ circular ≡ circular
  passed_two none nothing = rw (none, nothing) refl

  -- A check of the third part that stopped, where the others passed.
  pub stopped_third : {A B : Type 0} (Meant : A → Type 0) (Told : B → Type 0) (s : Stop F) → listing ≡ [] → spelling ≡ [] → Answers {A = A} circular Meant (Err s) → Answers {A = B} (listing ++ spelling ++ circular) Told (Err s)
  stopped_third Meant Told s none nothing h = stopped_left circular [] (listing ++ spelling ++ circular) Meant Told s (passed_two none nothing ∙ sym (append_nil circular)) h
