-- One part further in a tuple.
use Rattle.std.proofs.Common.{◌≡◌, ◌∙◌, ◌<◌, ◌+◌, sym, ap, subst, ℕ, List, [], ◌∷◌, ◌++◌, drop, get_or, length, map}
use Rattle.std.proofs.lemmas.List.{drop_more}
use Rattle.std.specs.Prelude.{Option, option_map}
use Rattle.design_lexer.specs.declared.tree.ExprTree.{ExprTree}
use Rattle.design_lexer.specs.declared.tree.PlaceTree.{PlaceTree}
use Rattle.expr_lower.specs.Meanings.{lowered}
use Rattle.expr_lower.specs.Reading.{Reading, faultless, lowered_parts, part_faults, reading}
use Rattle.expr_lower.specs.declared.meaning.Lower.{Lower}
use Rattle.expr_lower.specs.declared.meaning.Operand.{Operand}
use Rattle.tree_units.specs.TogetherLaws.{put_last}
use Rattle.value_type.specs.declared.poset.Types.{Types}

-- The faults of the parts that are left are all faults, and what they are lowered to, after what the others are, is all.
pub record PartsLeft (parts left : List Reading) (made : List Lower) : Type 0 where
  pub faults : part_faults parts ≡ part_faults left
  pub lowers : lowered_parts parts ≡ option_map (λ ls. made ++ ls) (lowered_parts left)

-- A part that has a meaning is added to what is made.
part_added : (parts left : List Reading) (made : List Lower) (part : Operand) → PartsLeft parts (faultless part ∷ left) made → PartsLeft parts left (made ++ lowered part.meaning ∷ [])
part_added parts left made part h = record { faults = h.faults; lowers = h.lowers ∙ put_last made (lowered part.meaning) (lowered_parts left) }

module _ (types : Types) (ports : PlaceTree → Option Lower) (parts : List ExprTree) (i : ℕ) (x : ExprTree) (inside : i < length parts) (is : x ≡ get_or parts i x) where
  pub part_next : (made next : List Lower) (part : Operand) (l : Lower) → reading types ports x ≡ faultless part → l ≡ lowered part.meaning → next ≡ made ++ l ∷ []
      → PartsLeft (map (reading types ports) parts) (map (reading types ports) (drop i parts)) made → PartsLeft (map (reading types ports) parts) (map (reading types ports) (drop (i + 1) parts)) next
  part_next made next part l read is_lowered added h =
      let front : drop i parts ≡ x ∷ drop (i + 1) parts = drop_more parts i x inside ∙ ap (λ (y : ExprTree). y ∷ drop (i + 1) parts) (sym is) in
      subst (λ (ls : List Lower). PartsLeft (map (reading types ports) parts) (map (reading types ports) (drop (i + 1) parts)) ls) (sym (added ∙ ap (λ (k : Lower). made ++ k ∷ []) is_lowered))
      (part_added (map (reading types ports) parts) (map (reading types ports) (drop (i + 1) parts)) made part
      (subst (λ (r : Reading). PartsLeft (map (reading types ports) parts) (r ∷ map (reading types ports) (drop (i + 1) parts)) made) read
      (subst (λ (ts : List ExprTree). PartsLeft (map (reading types ports) parts) (map (reading types ports) ts) made) front h)))
