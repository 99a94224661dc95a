use Rattle.std.proofs.lemmas.Result.{IfOk-weaker}
use Rattle.template_expand.proofs.PartLemmas.{module_beneath}
use Rattle.template_expand.proofs.expanding.expand.Goals as goal

pub body_made-requires : goal.body_made-requires
body_made-requires c = (c.requires.0, module_beneath _ _ c.requires.0 c.requires.1, c.requires.2)

pub returns : goal.returns
returns c = IfOk-weaker c.body_made.result _ _ (λ made only X p. only X (module_beneath _ _ X p)) c.body_made.ensures
