-- Which choices have a branch.
use Rattle.std.specs.Prelude.{◌<◌, length}
use Rattle.design_lexer.specs.declared.tree.BodyTree.{BodyTree}
use Rattle.design_lexer.specs.declared.tree.BodyTree.TheVariants as body
use Rattle.design_lexer.specs.declared.tree.File.{File}
use Rattle.design_lexer.specs.declared.tree.File.TheVariants as file
use Rattle.name_table.specs.declared.source.SourceFile.{SourceFile}

-- A body that is a choice has a branch.
abbrev pub BodyHasBranch : BodyTree → Type 0
BodyHasBranch (body.Catalogue ports rows table) = Unit {0}
BodyHasBranch (body.Choose branches) = 0 < length branches
BodyHasBranch (body.Net ports parts rules) = Unit {0}

-- The body of a design or a template has a branch, where it is a choice.
abbrev pub TreeHasBranch : File → Type 0
TreeHasBranch (file.Poset poset) = Unit {0}
TreeHasBranch (file.Interface ports) = Unit {0}
TreeHasBranch (file.Design b) = BodyHasBranch b
TreeHasBranch (file.Template params b) = BodyHasBranch b

-- A choice has a branch. The grammar asks for one, and a tree may have none.
abbrev pub HasBranch : SourceFile → Type 0
HasBranch f = TreeHasBranch f.tree
