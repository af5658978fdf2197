use Rattle.std.specs.Prelude.{ℕ, cond}
use Rattle.memory.specs.Memory.{Meaning}
use Rattle.memory.specs.Span.{in_range}
use Rattle.memory.specs.declared.cell.Cell.{Cell}
use Rattle.memory.specs.declared.cell.Cell.TheVariants.{Absent, ReadOnly, Writable}
use Rattle.layers.specs.declared.lock.Lock.{Lock}

-- a cell under a lock, which refuses writes to a byte that is there; a lock is part 4
abbrev pub locked : Cell → Cell
locked (Absent part) = Absent part
locked (ReadOnly byte part) = ReadOnly byte 4
locked (Writable byte) = ReadOnly byte 4

-- a meaning under a lock of a range
abbrev pub locked_range : ℕ → ℕ → Meaning → Meaning
locked_range start length below address = cond (in_range start length address) (locked (below address)) (below address)

-- a lock's meaning, from what the memory below means
abbrev pub lock_meaning : {M : Type 0} → (M → Meaning) → Lock M → Meaning
lock_meaning means lock = locked_range lock.start lock.length (means lock.below)
