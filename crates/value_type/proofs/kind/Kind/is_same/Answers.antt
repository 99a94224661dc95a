use Rattle.std.proofs.Common.{◌∙◌, sym, subst, IsTrue}
use Rattle.value_type.specs.declared.kind.Kind.{Kind}
use Rattle.value_type.specs.SameForm.{same_kind}
use Rattle.value_type.specs.SameFormLaws.{same_kind_itself, same_kind_is}
use Rattle.value_type.proofs.kind.Kind.is_same.Goals as goal

pub returns : goal.returns
returns c =
    let a = c.args.self.now in
    let b = c.args.other.now in
    (λ h. same_kind_is a b (sym c.same_kind.ensures ∙ h), λ e. c.same_kind.ensures ∙ subst (λ (z : Kind). IsTrue (same_kind a z)) e (same_kind_itself a))
