use Rattle.design_term.specs.TermLaws.{term_monotone}
use Rattle.design_term.proofs.laws.terms_are_monotone.Goals as goal

pub returns : goal.returns
returns c = record {
  fit = λ t n term ins outs x y typed. (term_monotone t n term ins outs typed).fit x y;
  upward = λ t n term ins outs x y z typed. (term_monotone t n term ins outs typed).upward x y z;
  falling = λ t n term ins outs x y z typed. (term_monotone t n term ins outs typed).falling x y z;
}
