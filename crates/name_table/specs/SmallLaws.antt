-- The files of a library are small.
use Rattle.std.proofs.Common.{◌≡◌, ℕ, List}
use Rattle.std.proofs.Math.Logic.{∥∥₁_elim}
use Rattle.std.specs.Coded.{le_prop}
use Rattle.std.specs.Prelude.{Some, slice_get}
use Rattle.design_lexer.specs.declared.tree.BodyTree.{BodyTree}
use Rattle.design_lexer.specs.declared.tree.BodyTree.TheVariants as body
use Rattle.design_lexer.specs.declared.tree.File.{File}
use Rattle.design_lexer.specs.declared.tree.File.TheVariants as file
use Rattle.name_rules.specs.Sizes.{IsSmall, IsSmallBody}
use Rattle.name_table.specs.Library.{AreSmall}
use Rattle.name_table.specs.declared.source.SourceFile.{SourceFile}
use Rattle.order_core.specs.MemberLaws.{got_member}
use Rattle.order_core.specs.PointwiseLaws.{each_got}

pair_prop : {A B : Type 0} → IsProp A → IsProp B → IsProp (A × B)
pair_prop p q = λ a b i. (p a.0 b.0 i, q a.1 b.1 i)

body_prop : (b : BodyTree) → IsProp (IsSmallBody b)
body_prop (body.Catalogue ports rows table) = pair_prop le_prop le_prop
body_prop (body.Choose branches) = le_prop
body_prop (body.Net ports parts rules) = λ a b i. (le_prop a.0 b.0 i, le_prop a.1 b.1 i, le_prop a.2 b.2 i)

-- That a file is small has one proof.
pub small_prop : (f : File) → IsProp (IsSmall f)
small_prop (file.Poset poset) = le_prop
small_prop (file.Interface ports) = le_prop
small_prop (file.Design b) = body_prop b
small_prop (file.Template params b) = pair_prop le_prop (body_prop b)

-- Each file of a library is small.
pub small_at : (files : List SourceFile) (i : ℕ) (f : SourceFile) → ∥ AreSmall files ∥₁ → slice_get files i ≡ Some f → IsSmall f.tree
small_at files i f small e = ∥∥₁_elim small (small_prop f.tree) (λ each. each_got (λ (g : SourceFile). IsSmall g.tree) files f each (got_member files i f e))
