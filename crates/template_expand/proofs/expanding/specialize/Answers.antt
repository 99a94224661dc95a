use Rattle.std.proofs.lemmas.Result.{IfOk-weaker}
use Rattle.template_expand.proofs.PartLemmas.{reference_beneath}
use Rattle.template_expand.proofs.expanding.specialize.Goals as goal

pub reference_made-requires : goal.reference_made-requires
reference_made-requires c = (c.requires.0, reference_beneath _ _ c.requires.0 c.requires.1, c.requires.2)

pub returns : goal.returns
returns c = IfOk-weaker c.reference_made.result _ _ (λ made only X p. only X (reference_beneath _ _ X p)) c.reference_made.ensures
