-- Hexadecimal digits, and what a byte of the text does.
use Rattle.std.specs.Prelude.{ℕ, ◌+◌, ◌-◌, ◌*◌, ◌%◌, Bool, cond, ◌&&◌, ◌||◌, Some, None, Ok, Err, Option, Result, ◌==◌, bit_or, nat_le}
use Rattle.image.specs.declared.digit.Turn.{Turn}
use Rattle.image.specs.declared.digit.Turn.TheVariants.{Gap, High, Byte}
use Rattle.image.specs.declared.trouble.Cause.{Cause}
use Rattle.image.specs.declared.trouble.Cause.TheVariants.{BadDigit, HalfByte}

-- within a range
abbrev pub between : ℕ → ℕ → ℕ → Bool
between lo hi b = nat_le lo b && nat_le b hi

-- 0 to 9, A to F, a to f
abbrev pub digit : ℕ → Option ℕ
digit b = cond (between 48 57 b) (Some (b - 48)) (cond (between 65 70 b) (Some (b - 65 + 10)) (cond (between 97 102 b) (Some (b - 97 + 10)) None))

-- a space or a newline
abbrev pub gap : ℕ → Bool
gap b = b == 32 || b == 10

-- after the high digit of a byte, or between bytes, a byte that is the given digit or none
abbrev pub turn : Option ℕ → Option ℕ → Bool → Result Turn Cause
turn None None g = cond g (Ok Gap) (Err BadDigit)
turn None (Some d) g = Ok (High d)
turn (Some h) None g = cond g (Err HalfByte) (Err BadDigit)
turn (Some h) (Some d) g = Ok (Byte (bit_or (h * 16 % 256) d))

-- what a byte of the text does
abbrev pub next : Option ℕ → ℕ → Result Turn Cause
next high b = turn high (digit b) (gap b)
