use Rattle.std.proofs.Common.{subst, IsTrue}
use Rattle.value_type.specs.declared.kind.Kind.{Kind}
use Rattle.value_type.specs.SameForm.{same_kind}
use Rattle.value_type.specs.SameFormLaws.{same_form_itself, same_kind_itself, same_kind_is}
use Rattle.value_type.proofs.laws.types_have_forms.Goals as goal

pub returns-clause-form : goal.returns-clause-form
returns-clause-form c = same_form_itself

pub returns-clause-same : goal.returns-clause-same
returns-clause-same c = λ j k. (same_kind_is j k, λ e. subst (λ (z : Kind). IsTrue (same_kind j z)) e (same_kind_itself j))
