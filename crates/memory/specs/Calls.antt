-- What lists of calls leave of a memory.
use Rattle.std.specs.Prelude.{ℕ, List, fold}
use Rattle.memory.specs.Memory.{Meaning, written}
use Rattle.memory.specs.declared.calls.Call.{Call}
use Rattle.memory.specs.declared.calls.Call.TheVariants.{Ask, Read, Write}
use Rattle.memory.specs.declared.cell.Cell.{Cell}
use Rattle.memory.specs.declared.cell.Cell.TheVariants as cell

-- a meaning after one call
abbrev pub after_call : Meaning → Call → Meaning
after_call m (Ask address) = m
after_call m (Read address) = m
after_call m (Write address byte) = written m address byte

-- a meaning after a list of calls, first to last
abbrev pub after_calls : Meaning → List Call → Meaning
after_calls = fold after_call

-- what may be done at an address, and the part that refuses the rest
pub data Permission : Type 0 where
  absent : ℕ → Permission
  read_only : ℕ → Permission
  writable : Permission

-- what a cell allows
abbrev pub permission : Cell → Permission
permission (cell.Absent part) = absent part
permission (cell.ReadOnly byte part) = read_only part
permission (cell.Writable byte) = writable
