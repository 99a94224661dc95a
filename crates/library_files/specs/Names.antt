-- The names of the files that belong to a library.
use Rattle.std.specs.Prelude.{ℕ, Bool, cond, not, ◌&&◌, ◌==◌, nat_le, List, Option, Some, None, codes, length}
use Rattle.std.specs.List.{after_first, before_first}
use Rattle.std.specs.Option.{is_some}
use Rattle.std.specs.Str.{bytes_eq}
use Rattle.design_lexer.specs.Pieces.{is_named, is_reserved}
use Rattle.design_parser.specs.declared.parse.FileKind.TheVariants as kind
use Rattle.library_files.specs.declared.name.Ending.{Ending}
use Rattle.library_files.specs.declared.name.Ending.TheVariants.{Tree, Table}

-- a letter or `_`, then letters, digits and `_`, at most 64 bytes, and no reserved word
unfoldable pub is_name : List ℕ → Bool
is_name bytes = is_named bytes && (not (is_reserved bytes) && nat_le (length bytes) 64)

abbrev pub is_dot : ℕ → Bool
is_dot byte = byte == 46

-- what stands before the first dot
unfoldable pub stem_of : List ℕ → List ℕ
stem_of name = before_first is_dot name

-- the ending that these bytes are
abbrev pub ending_named : List ℕ → Option Ending
ending_named bytes =
    cond (bytes_eq bytes (codes "poset")) (Some (Tree kind.Poset)) (
    cond (bytes_eq bytes (codes "interface")) (Some (Tree kind.Interface)) (
    cond (bytes_eq bytes (codes "mcdp")) (Some (Tree kind.Design)) (
    cond (bytes_eq bytes (codes "template")) (Some (Tree kind.Template)) (cond (bytes_eq bytes (codes "csv")) (Some Table) None))))

-- what the bytes after the first dot say that the file is
unfoldable pub ending_of : List ℕ → Option Ending
ending_of name = ending_named (after_first is_dot name)

-- A file of this name belongs to a library: it is a name and, after a dot, one of the five endings.
unfoldable pub is_recognised : List ℕ → Bool
is_recognised name = is_name (stem_of name) && is_some (ending_of name)
