-- Lines and columns of a text, both counted from 1.
use Rattle.std.specs.Prelude.{ℕ, ◌+◌, cond, List, fold, take, Some, None, Ok, Err, Option, Result, ◌==◌}
use Rattle.image.specs.declared.trouble.Cause.{Cause}
use Rattle.image.specs.declared.trouble.Trouble.{Trouble}

-- a place past one more byte: a newline begins a line
abbrev pub past : ℕ × ℕ → ℕ → ℕ × ℕ
past (l, c) b = cond (b == 10) (l + 1, 1) (l, c + 1)

-- the place after some bytes
abbrev pub place_of : List ℕ → ℕ × ℕ
place_of bs = fold past (1, 1) bs

-- a cause at a line and a column
abbrev pub trouble_at : Cause → ℕ × ℕ → Trouble
trouble_at c (l, k) = record { cause = c; line = l; column = k }

-- the trouble of a cause at an index of the text
abbrev pub trouble_of : {M : Type 0} → List ℕ → Result M (Cause × ℕ) → Option Trouble
trouble_of text (Ok m) = None
trouble_of text (Err (c, i)) = Some (trouble_at c (place_of (take i text)))
