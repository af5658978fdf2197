-- Ranges of addresses, and bytes that lie in one.
use Rattle.std.specs.Prelude.{ℕ, ◌+◌, ◌-◌, ◌^◌, Bool, cond, ◌&&◌, List, length, nat_le, nat_lt, slice_index}
use Rattle.memory.specs.Memory.{Meaning}
use Rattle.memory.specs.declared.cell.Cell.{Cell}
use Rattle.memory.specs.declared.cell.Cell.TheVariants.{Absent}

-- whether an address is one of the `count` from `start` on
abbrev pub in_range : ℕ → ℕ → ℕ → Bool
in_range start count address = nat_le start address && nat_lt address (start + count)

-- bytes at a base, each the `cell` of it; elsewhere, and from 2^32 on, absent by `part`
abbrev pub bytes_at : (ℕ → Cell) → ℕ → ℕ → List ℕ → Meaning
bytes_at cell part base bytes address =
    cond
    (in_range base (length bytes) address && nat_lt address (2 ^ 32))
    (cell (slice_index bytes (address - base)))
    (Absent part)
