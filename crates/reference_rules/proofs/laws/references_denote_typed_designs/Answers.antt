use Rattle.std.proofs.Common.{◌≡◌, subst, []}
use Rattle.design_lexer.specs.declared.tree.BodyTree.{BodyTree}
use Rattle.reference_meaning.specs.Denotes.{BodyDenotes, DenotesIn}
use Rattle.reference_rules.proofs.KnownPorts.{denoted_ports}
use Rattle.reference_rules.proofs.TypedMeaning.{denoted_good, file_good}
use Rattle.reference_rules.proofs.laws.references_denote_typed_designs.Goals as goal

pub returns : goal.returns
returns c = record {
  ports = λ front sources fronts clean q X none p. denoted_ports front sources fronts clean p.0 [] [] (λ name. tt) q X none p.1;
  typed = λ t front sources fronts clean files q X none p. (denoted_good t front sources fronts clean files p.0 [] [] (λ name. tt) (λ name Y e. absurd (cc)) q X none p.1).typed;
  files = λ t front sources fronts clean files source b X is none typed p.
      let same : p.body ≡ b = cc in
      (file_good t front sources fronts clean files source.content b X p.steps typed none (subst (λ (x : BodyTree). BodyDenotes (DenotesIn sources p.steps []) source.content x X) same p.denotes)).typed;
}
