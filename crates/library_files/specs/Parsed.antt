-- What the files of a library write.
use Rattle.std.specs.Prelude.{◌≡◌, ◌⊎◌, ℕ, Bool, true, false, not, List, filter, length, Option, Some, None}
use Rattle.std.specs.Str.{IsUtf8}
use Rattle.design_lexer.specs.Cut.{AreTokens, IsFirstBad}
use Rattle.design_lexer.specs.Syntax.Classes.{lexemes_of}
use Rattle.design_lexer.specs.Syntax.Faults.{FailsAt}
use Rattle.design_lexer.specs.declared.token.Token.{Token}
use Rattle.design_lexer.specs.declared.tree.File.{File}
use Rattle.design_parser.specs.Grammar.{Written}
use Rattle.design_parser.specs.declared.parse.FileKind.{FileKind}
use Rattle.design_world.specs.declared.memory.folder.MemoryFile.{MemoryFile}
use Rattle.fault_list.specs.declared.fault.Fault.{Fault}
use Rattle.fault_list.specs.declared.fault.FaultKind.TheVariants as wrong
use Rattle.fault_list.specs.declared.fault.FileFault.{FileFault}
use Rattle.library_files.specs.Names.{ending_of, stem_of}
use Rattle.library_files.specs.declared.name.Ending.{Ending}
use Rattle.library_files.specs.declared.name.Ending.TheVariants as ending
use Rattle.library_files.specs.declared.parse.Parsed.{Parsed}
use Rattle.library_files.specs.declared.source.Made.{Made}
use Rattle.library_files.specs.declared.source.Made.TheVariants as made
use Rattle.name_table.specs.declared.source.SourceFile.{SourceFile}
use Rattle.name_table.specs.declared.source.Table.{Table}
use Rattle.order_core.specs.Pointwise.{Pointwise}

-- ---- a text

-- The bytes are a text, and it is cut into these tokens.
pub record IsCut (bytes : List ℕ) (tokens : List Token) : Type 0 where
  pub text : IsUtf8 bytes
  pub cut : AreTokens bytes tokens

-- The tokens write the tree, as a file of the kind.
abbrev pub AreWritten : FileKind → List ℕ → List Token → File → Type 0
AreWritten kind bytes tokens tree = Written kind (lexemes_of bytes tokens) tree

-- The text writes the tree, as a file of the kind.
pub record Writes (kind : FileKind) (bytes : List ℕ) (tree : File) : Type 0 where
  pub tokens : List Token
  pub is_cut : IsCut bytes tokens
  pub written : AreWritten kind bytes tokens tree

-- The bytes aren't text, which is said of the first one.
pub record IsNoText (bytes : List ℕ) (fault : Fault) : Type 0 where
  pub kind_is : fault.kind ≡ wrong.NotText
  pub at_is : fault.at ≡ 0
  pub never : IsUtf8 bytes → ⊥

-- At the place the first piece of the text stands that is no token, space or comment.
pub record HasBadToken (bytes : List ℕ) (fault : Fault) : Type 0 where
  pub kind_is : fault.kind ≡ wrong.BadToken
  pub text : IsUtf8 bytes
  pub first : IsFirstBad bytes fault.at

abbrev pub HasCutFault : List ℕ → Fault → Type 0
HasCutFault bytes fault = IsNoText bytes fault ⊎ HasBadToken bytes fault

-- The tokens write no file of the kind, and the place is that of the first one with which no accepted text begins, or the text's length.
pub record HasSyntaxFault (kind : FileKind) (bytes : List ℕ) (tokens : List Token) (fault : Fault) : Type 0 where
  pub kind_is : fault.kind ≡ wrong.Syntax
  pub fails : FailsAt (Written kind) (length bytes) (lexemes_of bytes tokens) fault.at

-- what is wrong with the tokens of a text
pub record HasBadTokens (kind : FileKind) (bytes : List ℕ) (fault : Fault) : Type 0 where
  pub tokens : List Token
  pub is_cut : IsCut bytes tokens
  pub fails : HasSyntaxFault kind bytes tokens fault

-- what is wrong with a text, that is to write a file of the kind
abbrev pub HasFault : FileKind → List ℕ → Fault → Type 0
HasFault kind bytes fault = HasCutFault bytes fault ⊎ HasBadTokens kind bytes fault

-- ---- a file

abbrev pub is_table_ending : Option Ending → Bool
is_table_ending (Some ending.Table) = true
is_table_ending (Some (ending.Tree kind)) = false
is_table_ending None = false

-- The name ends in `.csv`.
unfoldable pub is_table : MemoryFile → Bool
is_table file = is_table_ending (ending_of file.name)

-- The file's name has an ending of the language, and its text writes the tree as a file of the kind that the ending says.
pub record WritesTree (file : MemoryFile) (tree : File) : Type 0 where
  pub kind : FileKind
  pub ending : ending_of file.name ≡ Some (ending.Tree kind)
  pub writes : Writes kind file.bytes tree

-- The source has the file's name, this name without its ending, and the tree that the file writes.
pub record IsParsed (file : MemoryFile) (source : SourceFile) : Type 0 where
  pub name : source.name ≡ file.name
  pub stem : source.stem ≡ stem_of file.name
  pub writes : WritesTree file source.tree

-- The table has the file's name, this name without its ending, and the file's bytes.
pub record IsTabled (file : MemoryFile) (table : Table) : Type 0 where
  pub name : table.name ≡ file.name
  pub stem : table.stem ≡ stem_of file.name
  pub bytes : table.bytes ≡ file.bytes

-- The file is a table, or writes a tree.
abbrev pub IsWritten : MemoryFile → Type 0
IsWritten file = (ending_of file.name ≡ Some ending.Table) ⊎ (tree : File) × WritesTree file tree

-- The fault is that of the file's text, with the file's name.
pub record HasTextFault (file : MemoryFile) (fault : FileFault) : Type 0 where
  pub kind : FileKind
  pub ending : ending_of file.name ≡ Some (ending.Tree kind)
  pub name : fault.file ≡ file.name
  pub has_fault : HasFault kind file.bytes (record { kind = fault.kind; at = fault.at })

-- What is made of the file: a table of one whose name ends in `.csv`, and a source of another.
abbrev pub IsMade : MemoryFile → Made → Type 0
IsMade file (made.Source source) = (is_table file ≡ false) × IsParsed file source
IsMade file (made.Table table) = (is_table file ≡ true) × IsTabled file table

-- ---- a library

-- In the order of the files, the tables are those whose names end in `.csv`, and the sources those that the others write.
pub record AreParsed (files : List MemoryFile) (made : Parsed) : Type 0 where
  pub sources : Pointwise IsParsed (filter (λ file. not (is_table file)) files) made.files
  pub tables : Pointwise IsTabled (filter is_table files) made.tables
