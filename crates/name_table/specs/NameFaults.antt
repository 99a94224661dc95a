-- What is wrong with the names of a library.
use Rattle.std.specs.Prelude.{List, ◌++◌}
use Rattle.std.specs.List.{flat_map}
use Rattle.fault_list.specs.Faults.{by_place, in_file}
use Rattle.fault_list.specs.declared.fault.Fault.{Fault}
use Rattle.fault_list.specs.declared.fault.FileFault.{FileFault}
use Rattle.name_rules.specs.Known.{Known}
use Rattle.name_rules.specs.Twice.{twice_faults}
use Rattle.name_rules.specs.Unknown.{unknown_faults}
use Rattle.name_table.specs.Files.{known_in}
use Rattle.name_table.specs.Listing.{listing_faults}
use Rattle.name_table.specs.Orders.{poset_faults}
use Rattle.name_table.specs.References.{circular_faults}
use Rattle.name_table.specs.declared.source.SourceFile.{SourceFile}
use Rattle.name_table.specs.declared.source.Table.{Table}

-- the names of a file that stand twice or lead nowhere, by their places
abbrev pub spelling_faults : Known → SourceFile → List Fault
spelling_faults known f = by_place (twice_faults f.tree ++ unknown_faults known f.tree)

-- those, and then what is wrong with a poset's order, each with the name of the file
abbrev pub file_faults : Known → SourceFile → List FileFault
file_faults known f = in_file f.name (spelling_faults known f) ++ in_file f.name (poset_faults f.tree)

-- First the files that are listed twice, then file by file what is wrong within it, then the files that come back to themselves.
abbrev pub name_faults : List SourceFile → List Table → List FileFault
name_faults files tables = listing_faults files tables ++ flat_map (file_faults (known_in files tables)) files ++ circular_faults files
