-- Forms as bytes of an image.
use Rattle.std.specs.Prelude.{ℕ, ◌+◌, ◌*◌, ◌/◌, ◌%◌, cond, List, [], ◌∷◌, length, Some, None, Option, nat_le, nat_lt, slice_index}
use Rattle.isa.specs.declared.form.Form.{Form}
use Rattle.isa.specs.declared.form.Form.TheVariants.{Short, Long}

-- a halfword lies low byte first
abbrev pub half : ℕ → ℕ → ℕ
half a b = a + 256 * b

-- a form's bytes: a word is its high halfword, then its low one
abbrev pub image : Form → List ℕ
image (Short h) = h % 256 ∷ h / 256 ∷ []
image (Long w) = w / 65536 % 256 ∷ w / 16777216 ∷ w % 256 ∷ w / 256 % 256 ∷ []

-- how many bytes a form takes
abbrev pub size : Form → ℕ
size (Short h) = 2
size (Long w) = 4

-- the form at the front of a code: a halfword, or a word where the top two bits of the first halfword are 11
abbrev pub front_form : List ℕ → Option Form
front_form code =
    cond
    (nat_le 2 (length code))
    (cond
    (nat_lt (half (slice_index code 0) (slice_index code 1)) 0xC000)
    (Some (Short (half (slice_index code 0) (slice_index code 1))))
    (cond (nat_le 4 (length code)) (Some (Long (half (slice_index code 0) (slice_index code 1) * 65536 + half (slice_index code 2) (slice_index code 3)))) None))
    None
