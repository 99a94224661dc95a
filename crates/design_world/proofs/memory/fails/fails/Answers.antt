use Rattle.std.proofs.Common.{◌≡◌, ◌∙◌, refl, sym, subst, IsTrue, nat_eq, ℕ, Bool}
use Rattle.std.proofs.lemmas.Bool.{eqb-true, eq-eqb}
use Rattle.std.specs.List.{list_any}
use Rattle.order_core.specs.MemberLaws.{any_elim, any_intro}
use Rattle.order_core.specs.Members.{IsMember}
use Rattle.design_world.proofs.memory.fails.fails.Goals as goal

pub returns : goal.returns
returns c =
    let is_call : ℕ → Bool = λ y. nat_eq y c.args.call in
    let found : c.contains.result ≡ list_any is_call c.args.failing.now = c.contains.ensures.value in (
      λ h. let w = any_elim is_call c.args.failing.now (sym found ∙ h) in subst (λ z. IsMember z c.args.failing.now) (eqb-true w.0 c.args.call w.2) w.1,
      λ m. found ∙ any_intro is_call c.args.failing.now c.args.call m (eq-eqb c.args.call c.args.call refl),
    )
