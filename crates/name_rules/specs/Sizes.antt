-- How long the lists of a file may be, so that places in them are numbers of 32 bits.
use Rattle.std.specs.Prelude.{◌<◌, ◌^◌, List, length}
use Rattle.design_lexer.specs.declared.tree.BodyTree.{BodyTree}
use Rattle.design_lexer.specs.declared.tree.BodyTree.TheVariants as body
use Rattle.design_lexer.specs.declared.tree.File.{File}
use Rattle.design_lexer.specs.declared.tree.File.TheVariants as file

-- The list has fewer than 2^32 items.
abbrev pub IsFew : {A : Type 0} → List A → Type 0
IsFew items = length items < 2 ^ 32

-- Its ports, rows, branches, instances and rules are few.
abbrev pub IsSmallBody : BodyTree → Type 0
IsSmallBody (body.Catalogue ports rows table) = IsFew ports × IsFew rows
IsSmallBody (body.Choose branches) = IsFew branches
IsSmallBody (body.Net ports parts rules) = IsFew ports × IsFew parts × IsFew rules

-- So are its elements, parameters and ports.
abbrev pub IsSmall : File → Type 0
IsSmall (file.Poset poset) = IsFew poset.elements
IsSmall (file.Interface ports) = IsFew ports
IsSmall (file.Design b) = IsSmallBody b
IsSmall (file.Template params b) = IsFew params × IsSmallBody b
