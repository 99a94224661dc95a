use Rattle.std.proofs.Common.{rules, ◌≡◌, ◌∙◌, ap, ℕ, List}
use Rattle.indexmap.specs.IndexMap.{get_by_text}
use Rattle.name_index.specs.Names.{number_of}
use Rattle.name_index.proofs.EntryLemmas.{found_again}
use Rattle.name_index.proofs.index.NameIndex.get.Goals as goal

pub returns : goal.returns
returns c =
    let text : c.copied.result ≡ get_by_text c.self.inside.numbers c.args.name.now = search rules in
    text ∙ found_again c.self.inside.numbers.entries c.args.name.now ∙ ap (λ (es : List (List ℕ × ℕ)). number_of es c.args.name.now) c.self.view_is
