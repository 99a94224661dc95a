use Rattle.std.proofs.Common.{◌∷◌, List, sym, map, arith, ◌∙◌, ap}
use Rattle.std.proofs.lemmas.Result.{IfOk-weaker}
use Rattle.design_model.specs.declared.design.Design.TheVariants.{Net}
use Rattle.reference_meaning.specs.Denotes.{choice_of}
use Rattle.reference_meaning.specs.declared.module.Resolved.{Resolved}
use Rattle.template_expand.proofs.PartLemmas.{all_parts, choice_parts, made_is, net_parts, next_part, one_part}
use Rattle.template_expand.proofs.TrailLemmas.{leads_into, leads_somewhere, leads_to_no_parameter}
use Rattle.template_expand.proofs.expanding.+reference_made.Goals as goal

pub body_made-returns-in_ok-parts-in-Choice : goal.body_made-returns-in_ok-parts-in-Choice
body_made-returns-in_ok-parts-in-Choice t c =
    IfOk-weaker c.choice_of.result _ _
    (λ made is X p. made_is _ _ _ choice_of X _ c.in_ok-parts-in-Choice.ensures (choice_parts _ _ c.args.named.now X p _ c.items-in-Choice.result.now c.in-Choice.is c.items-in-Choice.ensures) ∙ sym is) c.choice_of.ensures

pub body_made-returns-in_ok-copy_constraints-in-Net : goal.body_made-returns-in_ok-copy_constraints-in-Net
body_made-returns-in_ok-copy_constraints-in-Net t c = λ X p.
    made_is _ _ _ _ X _ c.in_ok-parts-in-Net.ensures (net_parts _ _ c.args.named.now X p _ c.items-in-Net.result.now c.in-Net.constraints c.in-Net.is c.items-in-Net.ensures)
    ∙ (λ i. Net (sym (c.in_ok-copy_ports-in-Net.ensures ∙ c.items-in-Net-2.ensures) i) (sym (c.in_ok-copy_ports-in-Net-2.ensures ∙ c.items-in-Net-3.ensures) i) (sym c.of.ensures i) (sym (c.in_ok-copy_constraints-in-Net.ensures ∙ c.items-in-Net-4.ensures) i))

pub parts_made-reference_made-requires : goal.parts_made-reference_made-requires
parts_made-reference_made-requires t c = (omega arith, one_part _ _ _ c.requires.0 c.args.depth c.loop-link.link-index c.link-item.result c.requires.1 c.requires.2 c.loop-link-test.true c.link-item.is)

pub parts_made-loop-link-preserved : goal.parts_made-loop-link-preserved
parts_made-loop-link-preserved t c = λ ps p.
    c.in_ok-push.ensures.items ∙ next_part _ _ c.args.links.now c.loop-link.made.items c.loop-link.link-index c.link-item.result _ c.in_ok-design.design c.loop-link-test.true c.link-item.is
    c.in_ok-name.ensures c.in_ok-design.ensures ps p (c.loop-link.invariant ps p)

pub parts_made-returns : goal.parts_made-returns
parts_made-returns t c = λ ps p. all_parts _ _ _ c.loop-link.made.items c.loop-link.link-index ps c.loop-link-test.false p (c.loop-link.invariant ps p)

pub reference_made-unreachable-requires : goal.reference_made-unreachable-requires
reference_made-unreachable-requires t c = leads_to_no_parameter _ _ _ _ c.original-from.ensures c.requires.0 c.requires.1 c.in-Parameter.field-0 c.in-Parameter.is

pub reference_made-body_made-requires : goal.reference_made-body_made-requires
reference_made-body_made-requires t c = (
  omega arith,
  (
    c.requires.0,
    leads_into _ _ _ _ c.original-from.ensures c.requires.0 c.requires.1 c.in-Module.number c.in-Module.arguments c.in-Some.named.now _ c.in-Module.is (sym c.in-Some.ensures)
        (ap (λ xs. map (λ q. q.now) xs) c.deref.ensures.value ∙ c.in_ok-trail-in-Some.ensures ∙ ap (λ (xs : List Resolved). xs ∷ map (λ q. q.now) c.original-from.result.trail.now) c.items.ensures),
    c.requires.2,
  ),
)

pub reference_made-unreachable-requires-in-None : goal.reference_made-unreachable-requires-in-None
reference_made-unreachable-requires-in-None t c = leads_somewhere _ _ _ _ c.original-from.ensures c.requires.0 c.requires.1 c.in-Module.number c.in-Module.arguments c.in-Module.is (sym c.in-None.ensures)

pub reference_made-returns : goal.reference_made-returns
reference_made-returns t c =
    IfOk-weaker c.body_made.result _ _
    (λ made only X p. only X (leads_into _ _ _ _ c.original-from.ensures X p c.in-Module.number c.in-Module.arguments c.in-Some.named.now _ c.in-Module.is (sym c.in-Some.ensures)
    (ap (λ xs. map (λ q. q.now) xs) c.deref.ensures.value ∙ c.in_ok-trail-in-Some.ensures ∙ ap (λ (xs : List Resolved). xs ∷ map (λ q. q.now) c.original-from.result.trail.now) c.items.ensures))) c.body_made.ensures
