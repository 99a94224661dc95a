-- Designs within the limits, and past one.
use Rattle.std.proofs.Common.{◌≡◌, ◌∙◌, ◌<◌, ◌≤◌, inl, inr, arith, refl, sym, ap, subst, ℕ, Bool, true, false, cond, List, min}
use Rattle.std.proofs.lemmas.Bool.{ltb-false, ltb-true}
use Rattle.std.specs.Prelude.{Option, Some, None, Err, nat_lt}
use Rattle.design_measure.specs.Measures.{depth_of, size_of}
use Rattle.design_measure.specs.declared.measures.Measured.{Measured}
use Rattle.design_model.specs.declared.design.Design.{Design}
use Rattle.fault_list.specs.Answers.{IsInFile}
use Rattle.fault_list.specs.Faults.{named}
use Rattle.fault_list.specs.FirstBad.{AnswersFirst, IsFirstBad}
use Rattle.fault_list.specs.declared.fault.Fault.{Fault}
use Rattle.fault_list.specs.declared.fault.FaultKind.{FaultKind}
use Rattle.fault_list.specs.declared.fault.FaultKind.TheVariants.{TooDeep, TooLarge}
use Rattle.fault_list.specs.declared.fault.FileFault.{FileFault}
use Rattle.fault_list.specs.declared.fault.Stop.{Stop}
use Rattle.fault_list.specs.declared.fault.Stop.TheVariants as stop
use Rattle.library_load.specs.Accepted.{IsInLimits, IsPastLimit, PassesLimit}
use Rattle.library_load.specs.Designs.{IsDesign}
use Rattle.library_load.specs.Limits.{passed, passed_by}
use Rattle.name_table.specs.declared.source.SourceFile.{SourceFile}
use Rattle.name_table.specs.declared.source.Table.{Table}
use Rattle.reference_meaning.specs.Sources.{is_closed}
use Rattle.value_type.specs.declared.poset.Types.{Types}

module _ (files : List SourceFile) (tables : List Table) (types : Types) (f : SourceFile) where
  -- The design of the file, with what is measured of it.
  pub record HasMeasure (d : Measured) : Type 0 where
    pub design : Design
    pub is_design : IsDesign files tables types f.stem design
    pub depth : d.depth ≡ min (depth_of design) 65
    pub size : d.size ≡ min (size_of design) 10001

  measured_in : (d : Measured) → HasMeasure d → passed_by d ≡ None → (X : Design) × IsDesign files tables types f.stem X × (depth_of X ≤ 64) × (size_of X ≤ 10000)
  measured_in d h e = go (nat_lt 64 d.depth) refl (nat_lt 10000 d.size) refl e
    where
      go : (t : Bool) → nat_lt 64 d.depth ≡ t → (u : Bool) → nat_lt 10000 d.size ≡ u → cond t (Some TooDeep) (cond u (Some TooLarge) None) ≡ None → (X : Design) × IsDesign files tables types f.stem X × (depth_of X ≤ 64) × (size_of X ≤ 10000)
      go true is u so k = absurd (cc)
      go false is true so k = absurd (cc)
      go false is false so k = let depth = h.depth in let size = h.size in let low = ltb-false 64 d.depth is in let few = ltb-false 10000 d.size so in (h.design, h.is_design, omega arith, omega arith)

  -- A design that passes no limit is within them.
  pub within : (o : Option Measured) → passed f o ≡ None → (is_closed f.tree ≡ true → (d : Measured) × (o ≡ Some d) × HasMeasure d) → IsInLimits files tables types f
  within o e h closed = let w = h closed in measured_in w.0 w.2 (sym (ap (λ t. cond t (passed_by w.0) None) closed) ∙ ap (passed f) (sym w.1) ∙ e)

  measured_past : (d : Measured) → HasMeasure d → (kind : FaultKind) → passed_by d ≡ Some kind → (X : Design) × IsDesign files tables types f.stem X × PassesLimit f.name X (record { file = f.name; kind = kind; at = 0 })
  measured_past d h kind e = go (nat_lt 64 d.depth) refl (nat_lt 10000 d.size) refl e
    where
      go : (t : Bool) → nat_lt 64 d.depth ≡ t → (u : Bool) → nat_lt 10000 d.size ≡ u → cond t (Some TooDeep) (cond u (Some TooLarge) None) ≡ Some kind
          → (X : Design) × IsDesign files tables types f.stem X × PassesLimit f.name X (record { file = f.name; kind = kind; at = 0 })
      go true is u so k =
          let same : kind ≡ TooDeep = cc in let depth = h.depth in let deep = ltb-true 64 d.depth is in let past : 64 < depth_of h.design = omega arith in
          (h.design, h.is_design, inl (past, λ i. record { file = f.name; kind = same i; at = 0 }))
      go false is true so k =
          let same : kind ≡ TooLarge = cc in let depth = h.depth in let size = h.size in let low = ltb-false 64 d.depth is in let many = ltb-true 10000 d.size so in let kept : depth_of h.design ≤ 64 = omega arith in let past : 10000 < size_of h.design = omega arith in
          (h.design, h.is_design, inr (kept, past, λ i. record { file = f.name; kind = same i; at = 0 }))
      go false is false so k = absurd (cc)

  -- A limit that is passed is passed by the design.
  pub past : (o : Option Measured) (kind : FaultKind) → passed f o ≡ Some kind → (is_closed f.tree ≡ true → (d : Measured) × (o ≡ Some d) × HasMeasure d) → IsPastLimit files tables types f (record { file = f.name; kind = kind; at = 0 })
  past o kind e h = go o refl e
    where
      closed_by : (d : Measured) (t : Bool) → is_closed f.tree ≡ t → cond t (passed_by d) None ≡ Some kind → o ≡ Some d → IsPastLimit files tables types f (record { file = f.name; kind = kind; at = 0 })
      closed_by d true closed k is =
          let w = h closed in
          let same : d ≡ w.0 = let there = w.1 in cc in
          let m = measured_past w.0 w.2 kind (ap passed_by (sym same) ∙ k) in
          record { closed = closed; design = m.0; is_design = m.1; passes = m.2 }
      closed_by d false closed k is = absurd (cc)

      go : (p : Option Measured) → o ≡ p → passed f p ≡ Some kind → IsPastLimit files tables types f (record { file = f.name; kind = kind; at = 0 })
      go (Some d) is k = closed_by d (is_closed f.tree) refl k is
      go None is k = absurd (cc)

-- The fault of the first design that passes a limit, with its file's name.
pub placed_here : (Good : SourceFile → Type 0) (Bad : SourceFile → FileFault → Type 0) (items : List SourceFile) (file : List ℕ) (fault : Fault) (s : Stop FileFault) → IsInFile file (stop.At fault) s → IsFirstBad Good Bad items (named file fault)
    → AnswersFirst {B = Unit {0}} Good Bad items (λ _. Unit {0}) (Err s)
placed_here Good Bad items file fault (stop.At placed) is first = subst (IsFirstBad Good Bad items) (sym is) first
placed_here Good Bad items file fault stop.Memory is first = tt
