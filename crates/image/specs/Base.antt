-- The base of an image by its text.
use Rattle.std.specs.Prelude.{ℕ, ◌+◌, ◌*◌, ◌%◌, Bool, cond, true, List, [], ◌∷◌, length, take, drop, codes, bytes_eq, Some, None, Ok, Err, Option, Result, ◌==◌, nat_le}
use Rattle.image.specs.Digit.{digit}
use Rattle.image.specs.declared.trouble.Cause.{Cause}
use Rattle.image.specs.declared.trouble.Cause.TheVariants.{NoBase, OddBase}

-- the text begins with `base `
abbrev pub says_base : List ℕ → Bool
says_base t = bytes_eq (take 5 t) (codes "base ")

-- the number of hexadecimal digits after those that make n
abbrev pub number : ℕ → List ℕ → Option ℕ
number n [] = Some n
number n (b ∷ bs) = elim (digit b) [ None ↦ None | Some d ↦ number (n * 16 + d) bs ]

-- the number of the first eight bytes of a line
abbrev pub eight : List ℕ → Option ℕ
eight line = cond (nat_le 8 (length line)) (number 0 (take 8 line)) None

-- the line ends here
abbrev pub ends_line : List ℕ → Bool
ends_line [] = true
ends_line (b ∷ bs) = b == 10

-- a base has to end its line and be even
abbrev pub chosen : Option ℕ → Bool → Result (ℕ × ℕ) Cause
chosen None e = Err NoBase
chosen (Some b) e = cond e (cond (b % 2 == 0) (Ok (b, 13)) (Err OddBase)) (Err NoBase)

-- the base, and the index at which the bytes begin
unfoldable pub base_of : List ℕ → Result (ℕ × ℕ) Cause
base_of t = cond (says_base t) (chosen (eight (drop 5 t)) (ends_line (drop 8 (drop 5 t)))) (Ok (0x1000, 0))
