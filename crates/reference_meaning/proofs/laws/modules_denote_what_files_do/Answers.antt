use Rattle.std.proofs.Common.{◌≡◌, subst, List, [], ℕ}
use Rattle.design_lexer.specs.declared.tree.BodyTree.{BodyTree}
use Rattle.reference_meaning.specs.Denotes.{BodyDenotes, DenotesIn}
use Rattle.reference_meaning.specs.Linking.{IsBodyOf}
use Rattle.reference_meaning.specs.Modules.{MakesIn}
use Rattle.reference_meaning.proofs.LinkLemmas.{body_made, linked_denotes, none_stand}
use Rattle.reference_meaning.proofs.laws.modules_denote_what_files_do.Goals as goal

pub returns : goal.returns
returns c = record {
  references = λ sources modules linked q r X e h. (h.0, linked_denotes sources modules linked h.0 [] [] [] none_stand q r X e h.1);
  files = λ sources modules linked source b m X is none made h.
      let same : h.body ≡ b = cc in (
        h.steps,
        body_made (DenotesIn sources h.steps []) (MakesIn modules h.steps []) sources [] (λ q r Y e f. linked_denotes sources modules linked h.steps [] [] [] none_stand q r Y e f) source.content m b m.body X made.provides made.requires_
            (subst (λ (ps : List (List ℕ)). IsBodyOf sources ps source.content b m.body) none made.body)
            (subst (λ (x : BodyTree). BodyDenotes (DenotesIn sources h.steps []) source.content x X) same h.denotes),
      );
}
