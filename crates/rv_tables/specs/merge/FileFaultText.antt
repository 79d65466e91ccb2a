-- What is told of a file's fault, and the exit status.
use Rattle.std.specs.Prelude.{ℕ, Option, Some, List, ◌++◌, codes}
use Rattle.std.specs.Fmt.{decimal}
use Rattle.rv_faults.specs.FaultText as plain
use Rattle.rv_faults.specs.Sentences.{fault_sentence}
use Rattle.rv_tables.specs.declared.fault.TableKind.{TableKind}
use Rattle.rv_tables.specs.declared.fault.TableKind.TheVariants as table
use Rattle.rv_tables.specs.declared.merge.fault.FileFault.{FileFault}
use Rattle.rv_tables.specs.declared.merge.fault.FileFault.TheVariants.{Plain, Table, Ignore, Aim, Lines}
use Rattle.rv_tables.specs.declared.merge.fault.IgnoreKind.{IgnoreKind}
use Rattle.rv_tables.specs.declared.merge.fault.IgnoreKind.TheVariants as ignore
use Rattle.rv_lines.specs.declared.fault.LinesKind.{LinesKind}
use Rattle.rv_lines.specs.declared.fault.LinesKind.TheVariants as lines

abbrev pub table_kind_name : TableKind → List ℕ
table_kind_name table.Shape = codes "Shape"
table_kind_name table.Range = codes "Range"
table_kind_name table.Twice = codes "Twice"
table_kind_name table.End = codes "End"
table_kind_name table.Image = codes "Image"
table_kind_name table.Version = codes "Version"
table_kind_name table.Options = codes "Options"
table_kind_name table.Overlap = codes "Overlap"
table_kind_name table.Gap = codes "Gap"
table_kind_name table.NotMet = codes "NotMet"

abbrev pub ignore_kind_name : IgnoreKind → List ℕ
ignore_kind_name ignore.Shape = codes "Shape"
ignore_kind_name ignore.Unknown = codes "Unknown"

abbrev pub lines_kind_name : LinesKind → List ℕ
lines_kind_name lines.Shape = codes "Shape"
lines_kind_name lines.Order = codes "Order"

-- what is written of a fault after its file's name; a line counts from 1
abbrev pub fault_output : FileFault → Option (List ℕ)
fault_output (Plain fault) = plain.fault_output fault
fault_output (Table fault) = Some (codes "table line " ++ (decimal fault.line ++ (codes " " ++ table_kind_name fault.kind)))
fault_output (Ignore fault) = Some (codes "ignore line " ++ (decimal fault.line ++ (codes " " ++ ignore_kind_name fault.kind)))
fault_output Aim = Some (codes "ignore aim " ++ ignore_kind_name ignore.Unknown)
fault_output (Lines fault) = Some (codes "lines line " ++ (decimal fault.line ++ (codes " " ++ lines_kind_name fault.kind)))

abbrev pub table_sentence : TableKind → List ℕ
table_sentence table.Shape = codes "the line is not the row of a race: is this a table of hunt?"
table_sentence table.Range = codes "a number or an address of the row is out of range"
table_sentence table.Twice = codes "the race has a row already: use merge to add tables"
table_sentence table.End = codes "there are not as many rows as the first line says, or no last line says what they are of: was it cut off?"
table_sentence table.Image = codes "the table is of another image than the one that is given, or than the first table"
table_sentence table.Version = codes "the table was made by another version of rvcollide than this one, or than the first table"
table_sentence table.Options = codes "the runs of the table had another seed or other options than those of the first one"
table_sentence table.Overlap = codes "the table has runs that another table has, or that come before the last of another: leave one out"
table_sentence table.Gap = codes "runs are missing before those of the table: add their table, or allow it by --gaps"
table_sentence table.NotMet = codes "the run of the row makes no such report: was the table edited?"

abbrev pub ignore_sentence : IgnoreKind → List ℕ
ignore_sentence ignore.Shape = codes "a line is two sides, each an address of eight hexadecimal digits, a symbol's name or *; on NAME may follow"
ignore_sentence ignore.Unknown = codes "the image has no symbol with this name"

abbrev pub lines_sentence : LinesKind → List ℕ
lines_sentence lines.Shape = codes "a line is an address of eight hexadecimal digits, and for each frame a function and FILE:LINE, with tabs between"
lines_sentence lines.Order = codes "the address is not greater than that of the line before: did rvcollide-lines write the file?"

-- what is wrong, or what to do
abbrev pub sentence : FileFault → List ℕ
sentence (Plain fault) = fault_sentence fault
sentence (Table fault) = table_sentence fault.kind
sentence (Ignore fault) = ignore_sentence fault.kind
sentence Aim = ignore_sentence ignore.Unknown
sentence (Lines fault) = lines_sentence fault.kind

-- the exit status: 1 for a refused file, 3 for a device that failed, 4 for want of memory
abbrev pub status : FileFault → ℕ
status (Plain fault) = plain.status fault
status (Table fault) = 1
status (Ignore fault) = 1
status Aim = 1
status (Lines fault) = 1
