use Rattle.std.proofs.Common.{◌∙◌, ap}
use Rattle.std.specs.Prelude.{is_some}
use Rattle.std.specs.Str.{bytes_eq}
use Rattle.design_lexer.specs.declared.tree.NameAt.{NameAt}
use Rattle.name_index.specs.PlaceLaws.{position_there}
use Rattle.order_core.specs.ResultLaws.{if_ok}
use Rattle.name_table.proofs.library.file_elements.Goals as goal

pub returns-in-Poset : goal.returns-in-Poset
returns-in-Poset c = rw c.in-Poset.is (if_ok _ _ c.places_of.result
    (λ names h name. ap is_some (h name) ∙ position_there (λ (e : NameAt). bytes_eq name e.name) 0 c.in-Poset.poset.elements)
    (rw c.items.ensures at c.places_of.ensures))
