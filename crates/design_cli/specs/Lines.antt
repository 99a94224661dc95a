-- The line for standard error that a status has, and its code.
use Rattle.std.specs.Prelude.{ℕ, List, [], ◌++◌, codes}
use Rattle.std.specs.Fmt.{decimal}
use Rattle.design_cli.specs.declared.status.Status.{Status}
use Rattle.design_cli.specs.declared.status.Status.TheVariants.{Done, Usage, LibraryRefused, QueryRefused, FolderFault, SinkFault, Memory}
use Rattle.fault_list.specs.declared.fault.FaultKind.{FaultKind}
use Rattle.fault_list.specs.declared.fault.FaultKind.TheVariants as kind
use Rattle.fault_list.specs.declared.fault.FileFault.{FileFault}
use Rattle.library_files.specs.declared.fault.LibraryFault.{LibraryFault}
use Rattle.library_files.specs.declared.fault.LibraryFault.TheVariants as library
use Rattle.query_read.specs.declared.query.QueryFault.{QueryFault}
use Rattle.query_read.specs.declared.query.QueryFault.TheVariants as query

abbrev pub code_of : Status → ℕ
code_of Done = 0
code_of Usage = 2
code_of (LibraryRefused fault) = 4
code_of (QueryRefused fault) = 5
code_of FolderFault = 7
code_of SinkFault = 9
code_of Memory = 70

unfoldable pub usage_line : List ℕ
usage_line = codes "usage: mcdpl solve|explain|certify FOLDER NAME QUERY [--rounds N], check FOLDER NAME QUERY, show FOLDER NAME, generate START SIZE"

-- the name of a kind of fault
unfoldable pub kind_text : FaultKind → List ℕ
kind_text kind.NotText = codes "NotText"
kind_text kind.BadToken = codes "BadToken"
kind_text kind.Syntax = codes "Syntax"
kind_text kind.Twice = codes "Twice"
kind_text kind.Unknown = codes "Unknown"
kind_text kind.EmptyPoset = codes "EmptyPoset"
kind_text kind.LargePoset = codes "LargePoset"
kind_text kind.NotAnOrder = codes "NotAnOrder"
kind_text kind.Circular = codes "Circular"
kind_text kind.Exponent = codes "Exponent"
kind_text kind.ConstantRange = codes "ConstantRange"
kind_text kind.PortGrid = codes "PortGrid"
kind_text kind.ZeroDivisor = codes "ZeroDivisor"
kind_text kind.NoPort = codes "NoPort"
kind_text kind.Mismatch = codes "Mismatch"
kind_text kind.Unconnected = codes "Unconnected"
kind_text kind.NoRows = codes "NoRows"
kind_text kind.RowWidth = codes "RowWidth"
kind_text kind.BadCell = codes "BadCell"
kind_text kind.ArgumentUnknown = codes "ArgumentUnknown"
kind_text kind.ArgumentMissing = codes "ArgumentMissing"
kind_text kind.PortsDiffer = codes "PortsDiffer"
kind_text kind.TooDeep = codes "TooDeep"
kind_text kind.TooLarge = codes "TooLarge"

-- the file, the kind of the fault and its place
abbrev pub fault_line : FileFault → List ℕ
fault_line fault = fault.file ++ codes ": " ++ kind_text fault.kind ++ codes " at " ++ decimal fault.at

abbrev pub library_line : LibraryFault → List ℕ
library_line (library.TooManyFiles count) = codes "too many files: " ++ decimal count
library_line (library.FileTooLong file) = codes "file too long: " ++ file
library_line (library.LibraryTooLong file) = codes "library too long: " ++ file
library_line (library.Refused fault) = fault_line fault

abbrev pub query_line : QueryFault → List ℕ
query_line query.NoDesign = codes "query: no design"
query_line (query.Syntax at) = codes "query: syntax at " ++ decimal at
query_line (query.Width found wanted) = codes "query: " ++ decimal found ++ codes " values for " ++ decimal wanted ++ codes " ports"
query_line (query.Kind index) = codes "query: wrong value " ++ decimal index
query_line query.NotYet = codes "query: not yet"
query_line (query.TupleSyntax at) = codes "tuple: syntax at " ++ decimal at
query_line (query.TupleWidth found wanted) = codes "tuple: " ++ decimal found ++ codes " values for " ++ decimal wanted ++ codes " ports"
query_line (query.TupleKind index) = codes "tuple: wrong value " ++ decimal index

abbrev pub line_of : Status → List ℕ
line_of Done = []
line_of Usage = usage_line
line_of (LibraryRefused fault) = library_line fault
line_of (QueryRefused fault) = query_line fault
line_of FolderFault = codes "folder fault"
line_of SinkFault = codes "sink fault"
line_of Memory = codes "out of memory"
