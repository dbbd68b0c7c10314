-- Why a table was not written to its end.
use Rattle.std.specs.Prelude.{Bool, false, true, Result, Err}
use Rattle.chord_judge.specs.declared.stream.TableFault.{TableFault}
use Rattle.chord_judge.specs.declared.stream.TableFault.TheVariants as fault

-- whether the result is the fault of the writer of the table
abbrev pub is_write_fault : {A : Type 0} → Result A TableFault → Bool
is_write_fault (Err fault.Write) = true
is_write_fault _ = false

-- whether the result is the fault of the reader of the trace
abbrev pub is_read_fault : {A : Type 0} → Result A TableFault → Bool
is_read_fault (Err fault.Read) = true
is_read_fault _ = false
