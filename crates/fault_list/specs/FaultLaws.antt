-- How the first fault of a list is found from its parts, and what a sort by places keeps.
use Rattle.std.proofs.Common.{◌≡◌, ◌∙◌, ◌≤◌, refl, sym, ap, arith, ℕ, Bool, true, false, cond, List, [], ◌∷◌, ◌++◌}
use Rattle.std.proofs.lemmas.Bool.{leb-true, leb-false, le-leb, lt-leb, eqb-true}
use Rattle.std.specs.Prelude.{nat_eq, nat_le, Option, Some, None, Err}
use Rattle.order_core.specs.Pointwise.{Each}
use Rattle.order_core.specs.PointwiseLaws.{each_weaker}
use Rattle.fault_list.specs.Answers.{Answers, IsInFile}
use Rattle.fault_list.specs.Faults.{first_fault, earlier, least, put, by_place, InPlaces, at_place, in_file}
use Rattle.fault_list.specs.declared.fault.Fault.{Fault}
use Rattle.fault_list.specs.declared.fault.FileFault.{FileFault}
use Rattle.fault_list.specs.declared.fault.Stop.{Stop}
use Rattle.fault_list.specs.declared.fault.Stop.TheVariants as stop

pub first_left : {F : Type 0} (f : F) (xs ys : List F) → first_fault xs ≡ Some f → first_fault (xs ++ ys) ≡ Some f
first_left f [] ys h = absurd (cc)
first_left f (x ∷ xs) ys h = h

pub first_right : {F : Type 0} (xs ys : List F) → xs ≡ [] → first_fault (xs ++ ys) ≡ first_fault ys
first_right xs ys e = rw e refl

pub none_left : {F : Type 0} (xs ys : List F) → xs ++ ys ≡ [] → xs ≡ []
none_left [] ys e = refl
none_left (x ∷ xs) ys e = absurd (cc)

pub earlier_than_none : (a : Option Fault) → earlier a None ≡ a
earlier_than_none None = refl
earlier_than_none (Some x) = refl

-- Which of three is the earliest doesn't depend on which two are compared first.
pub earlier_of_three : (a b c : Option Fault) → earlier a (earlier b c) ≡ earlier (earlier a b) c
earlier_of_three None b c = refl
earlier_of_three (Some x) None c = refl
earlier_of_three (Some x) (Some y) None = sym (earlier_than_none (cond (nat_le x.at y.at) (Some x) (Some y)))
earlier_of_three (Some x) (Some y) (Some z) = go (nat_le x.at y.at) (nat_le y.at z.at) refl refl
  where
    go : (s t : Bool) → nat_le x.at y.at ≡ s → nat_le y.at z.at ≡ t → earlier (Some x) (cond t (Some y) (Some z)) ≡ earlier (cond s (Some x) (Some y)) (Some z)
    go true true e f =
        let last : nat_le x.at z.at ≡ true = le-leb x.at z.at (omega (arith, leb-true x.at y.at e, leb-true y.at z.at f)) in rw (e, last) refl
    go true false e f = refl
    go false true e f = rw (e, f) refl
    go false false e f =
        let last : nat_le x.at z.at ≡ false = lt-leb x.at z.at (omega (arith, leb-false x.at y.at e, leb-false y.at z.at f)) in rw (f, last) refl

pub least_joined : (xs ys : List Fault) → least (xs ++ ys) ≡ earlier (least xs) (least ys)
least_joined [] ys = refl
least_joined (x ∷ xs) ys = ap (earlier (Some x)) (least_joined xs ys) ∙ earlier_of_three (Some x) (least xs) (least ys)

first_put : (x : Fault) (ys : List Fault) → first_fault (put x ys) ≡ earlier (Some x) (first_fault ys)
first_put x [] = refl
first_put x (y ∷ ys) = go (nat_le x.at y.at)
  where
    go : (t : Bool) → first_fault (cond t (x ∷ y ∷ ys) (y ∷ put x ys)) ≡ cond t (Some x) (Some y)
    go true = refl
    go false = refl

-- The first fault in the order of places is the least one.
pub first_by_place : (xs : List Fault) → first_fault (by_place xs) ≡ least xs
first_by_place [] = refl
first_by_place (x ∷ xs) = first_put x (by_place xs) ∙ ap (earlier (Some x)) (first_by_place xs)

pub least_none : (xs : List Fault) → least xs ≡ None → xs ≡ []
least_none [] e = refl
least_none (x ∷ xs) e = absurd (some (least xs) e)
  where
    some : (o : Option Fault) → earlier (Some x) o ≡ None → ⊥
    some None h = cc
    some (Some y) h = go (nat_le x.at y.at) h
      where
        go : (t : Bool) → cond t (Some x) (Some y) ≡ None → ⊥
        go true k = cc
        go false k = cc

first_none : {F : Type 0} (xs : List F) → first_fault xs ≡ None → xs ≡ []
first_none [] e = refl
first_none (x ∷ xs) e = absurd (cc)

pub by_place_none : (xs : List Fault) → xs ≡ [] → by_place xs ≡ []
by_place_none xs e = rw e refl

pub none_by_place : (xs : List Fault) → by_place xs ≡ [] → xs ≡ []
none_by_place xs e = least_none xs (sym (first_by_place xs) ∙ ap first_fault e)

-- A place at most that of each fault is at most that of each after one more is put.
each_put : (k : ℕ) (x : Fault) (ys : List Fault) → k ≤ x.at → Each (λ y. k ≤ y.at) ys → Each (λ y. k ≤ y.at) (put x ys)
each_put k x [] l h = (l, tt)
each_put k x (y ∷ ys) l h = go (nat_le x.at y.at) (each_put k x ys l h.1)
  where
    go : (t : Bool) → Each (λ z. k ≤ z.at) (put x ys) → Each (λ z. k ≤ z.at) (cond t (x ∷ y ∷ ys) (y ∷ put x ys))
    go true later = (l, h)
    go false later = (h.0, later)

put_in_places : (x : Fault) (ys : List Fault) → InPlaces ys → InPlaces (put x ys)
put_in_places x [] h = (tt, tt)
put_in_places x (y ∷ ys) h = go (nat_le x.at y.at) refl (put_in_places x ys h.1)
  where
    go : (t : Bool) → nat_le x.at y.at ≡ t → InPlaces (put x ys) → InPlaces (cond t (x ∷ y ∷ ys) (y ∷ put x ys))
    go true e later =
        let l = leb-true x.at y.at e in
        ((l, each_weaker (λ z. y.at ≤ z.at) (λ z. x.at ≤ z.at) ys (λ z m k. omega (arith, l, k)) h.0), h)
    go false e later = let l = leb-false x.at y.at e in (each_put y.at x ys (omega (arith, l)) h.0, later)

pub by_place_rises : (xs : List Fault) → InPlaces (by_place xs)
by_place_rises [] = tt
by_place_rises (x ∷ xs) = put_in_places x (by_place xs) (by_place_rises xs)

at_put : (k : ℕ) (x : Fault) (ys : List Fault) → at_place k (put x ys) ≡ at_place k (x ∷ ys)
at_put k x [] = refl
at_put k x (y ∷ ys) = go (nat_le x.at y.at) refl (at_put k x ys)
  where
    swap : (x.at ≡ y.at → ⊥) → (s t : Bool) → nat_eq x.at k ≡ s → nat_eq y.at k ≡ t
        → cond t (y ∷ cond s (x ∷ at_place k ys) (at_place k ys)) (cond s (x ∷ at_place k ys) (at_place k ys)) ≡ cond s (x ∷ cond t (y ∷ at_place k ys) (at_place k ys)) (cond t (y ∷ at_place k ys) (at_place k ys))
    swap d true true e f = absurd (d (eqb-true x.at k e ∙ sym (eqb-true y.at k f)))
    swap d true false e f = refl
    swap d false true e f = refl
    swap d false false e f = refl

    go : (t : Bool) → nat_le x.at y.at ≡ t → at_place k (put x ys) ≡ at_place k (x ∷ ys) → at_place k (cond t (x ∷ y ∷ ys) (y ∷ put x ys)) ≡ at_place k (x ∷ y ∷ ys)
    go true e later = refl
    go false e later =
        let l = leb-false x.at y.at e in
        ap (λ zs. cond (nat_eq y.at k) (y ∷ zs) zs) later ∙ swap (λ same. omega (arith, l, same)) (nat_eq x.at k) (nat_eq y.at k) refl refl

-- The faults of each place stay, in their order.
pub by_place_keeps : (k : ℕ) (xs : List Fault) → at_place k (by_place xs) ≡ at_place k xs
by_place_keeps k [] = refl
by_place_keeps k (x ∷ xs) = at_put k x (by_place xs) ∙ ap (λ zs. cond (nat_eq x.at k) (x ∷ zs) zs) (by_place_keeps k xs)

first_in_file : (file : List ℕ) (faults : List Fault) (fault : Fault) → first_fault faults ≡ Some fault → first_fault (in_file file faults) ≡ Some (record { file = file; kind = fault.kind; at = fault.at })
first_in_file file [] fault e = absurd (cc)
first_in_file file (x ∷ xs) fault e = let same : x ≡ fault = cc in ap (λ (y : Fault). Some (record { file = file; kind = y.kind; at = y.at })) same

-- A check of one file that stopped, with the name of the file.
pub stopped_in_file : {A B : Type 0} (file : List ℕ) (faults : List Fault) (Meant : A → Type 0) (Told : B → Type 0) (s : Stop Fault) (placed : Stop FileFault)
    → Answers {A = A} faults Meant (Err s) → IsInFile file s placed → Answers {A = B} (in_file file faults) Told (Err placed)
stopped_in_file file faults Meant Told (stop.At fault) (stop.At placed) a is = first_in_file file faults fault a ∙ ap (λ (f : FileFault). Some f) (sym is)
stopped_in_file file faults Meant Told (stop.At fault) stop.Memory a is = tt
stopped_in_file file faults Meant Told stop.Memory (stop.At placed) a is = absurd is
stopped_in_file file faults Meant Told stop.Memory stop.Memory a is = tt

pub none_in_file : (file : List ℕ) (faults : List Fault) → faults ≡ [] → in_file file faults ≡ []
none_in_file file faults e = rw e refl
