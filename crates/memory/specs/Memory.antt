-- What a memory means, and what a write leaves of that.
use Rattle.std.specs.Prelude.{ℕ, cond, ◌==◌}
use Rattle.memory.specs.declared.cell.Cell.{Cell}
use Rattle.memory.specs.declared.cell.Cell.TheVariants.{Absent, ReadOnly, Writable}

-- what each address means
abbrev pub Meaning : Type 0
Meaning = ℕ → Cell

-- a cell after a write to it: only a writable one changes
abbrev pub overwritten : Cell → ℕ → Cell
overwritten (Absent part) new = Absent part
overwritten (ReadOnly byte part) new = ReadOnly byte part
overwritten (Writable byte) new = Writable new

-- a meaning after a write to one address, accepted or refused
abbrev pub written : Meaning → ℕ → ℕ → Meaning
written m address new k = cond (k == address) (overwritten (m address) new) (m k)
