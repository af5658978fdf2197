-- What one address answers, case by case.
use Rattle.std.specs.Prelude.{ℕ, Ok, Err, Result}
use Rattle.memory.specs.declared.cell.Cell.{Cell}
use Rattle.memory.specs.declared.cell.Cell.TheVariants.{Absent, ReadOnly, Writable}
use Rattle.refusal.specs.declared.fault.Fault.{Fault}
use Rattle.refusal.specs.declared.fault.Fault.TheVariants as fault

-- what a read answers
abbrev pub on_read : Cell → Result ℕ Fault
on_read (Absent part) = Err (fault.Absent part)
on_read (ReadOnly byte part) = Ok byte
on_read (Writable byte) = Ok byte

-- what a write answers
abbrev pub on_write : Cell → Result (Unit {0}) Fault
on_write (Absent part) = Err (fault.Absent part)
on_write (ReadOnly byte part) = Err (fault.ReadOnly part)
on_write (Writable byte) = Ok tt
