-- Fields of a form, from their highest bit down to their lowest.
use Rattle.std.specs.Prelude.{ℕ, ◌+◌, ◌-◌}
use Rattle.table.specs.Diagram.{slice}

-- how many bits a field has
abbrev pub width : ℕ × ℕ → ℕ
width b = b.0 - b.1 + 1

-- the bits of a form in a field
abbrev pub bits : ℕ × ℕ → ℕ → ℕ
bits b form = slice form b.1 (width b)
