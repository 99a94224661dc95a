use Rattle.std.proofs.Common.{◌≡◌, ◌∙◌, ◌∷◌, ◌++◌, ◌||◌, ◌&&◌, [], ap, refl, sym, take, ◌+◌, true, false, Bool, List, ℕ}
use Rattle.std.proofs.lemmas.List.{take_more}
use Rattle.std.proofs.lemmas.List.Folds.{list_any-append}
use Rattle.std.specs.Prelude.{is_some}
use Rattle.std.specs.Str.{bytes_eq}
use Rattle.design_lexer.specs.declared.tree.PlaceTree.{PlaceTree}
use Rattle.design_lexer.specs.declared.tree.RuleTree.{RuleTree}
use Rattle.name_index.specs.Names.{number_of, with_name}
use Rattle.unit_check.proofs.MarkLemmas.{more}
use Rattle.unit_check.specs.Connection.{is_alone, is_own, is_placed, placed}
use Rattle.unit_check.proofs.named.own_ports.Goals as goal
use Rattle.unit_check.proofs.named.own_ports.Goals.{in-None+in_ok-add-in-None, in-Some}

pub loop-rule-preserved : goal.loop-rule-preserved
loop-rule-preserved c = λ name.
    let rules = c.args.rules.now in
    let i = c.loop-rule.rule-index in
    let r = c.rule-item.result in
    let place = c.placed-place.result.now in
    let before = is_placed (take i rules) (is_own name) in
    let whole : is_placed (take (i + 1) rules) (is_own name) ≡ before || (is_own name place || false) =
    ap (λ (rs : List RuleTree). is_placed rs (is_own name)) (take_more rules i r c.loop-rule-test.true ∙ ap (λ (q : RuleTree). take i rules ++ q ∷ []) (sym c.rule-item.is))
    ∙ list_any-append (λ (q : RuleTree). is_own name (placed q)) (take i rules) (r ∷ [])
    ∙ ap (λ (p : PlaceTree). before || (is_own name p || false)) (sym c.placed-place.ensures) in
    elim c.match-place.branch [
      | in-None+in_ok-add-in-None w ↦
          let own : is_own name place ≡ bytes_eq name place.first.name = ap (λ o. is_alone o && bytes_eq name place.first.name) w.in-None.is in
          ap (λ names. is_some (number_of names name)) (w.own-is ∙ w.in_ok-add-in-None.ensures.names)
          ∙ ap (λ (t : List ℕ). is_some (number_of (with_name c.loop-rule.own t 0) name)) w.as_str.ensures
          ∙ more c.loop-rule.own name place.first.name ∙ ap (λ (t : Bool). t || bytes_eq name place.first.name) (c.loop-rule.invariant name)
          ∙ last before (bytes_eq name place.first.name) ∙ ap (λ (t : Bool). before || (t || false)) (sym own) ∙ sym whole
      | in-Some w ↦
          let own : is_own name place ≡ false = ap (λ o. is_alone o && bytes_eq name place.first.name) w.in-Some.is in
          ap (λ names. is_some (number_of names name)) w.own-is ∙ c.loop-rule.invariant name ∙ first before ∙ ap (λ (t : Bool). before || (t || false)) (sym own) ∙ sym whole
    ]
  where
    last : (s t : Bool) → s || t ≡ s || (t || false)
    last s true = refl
    last s false = refl

    first : (s : Bool) → s ≡ s || (false || false)
    first true = refl
    first false = refl
