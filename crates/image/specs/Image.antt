-- The image that a text spells, as its base and its bytes, or a cause and the index of its place.
use Rattle.std.specs.Prelude.{ℕ, ◌+◌, ◌^◌, cond, List, length, drop, None, Ok, Err, vec_items, Result, nat_lt, ⊤}
use Rattle.image.specs.Base.{base_of}
use Rattle.image.specs.Hex.{hex}
use Rattle.image.specs.Read.{Answers}
use Rattle.image.specs.declared.image.Image.{Image}
use Rattle.image.specs.declared.trouble.Cause.{Cause}
use Rattle.image.specs.declared.trouble.Cause.TheVariants.{PastTheEnd}
use Rattle.image.specs.declared.trouble.ImageError.{ImageError}
use Rattle.image.specs.declared.trouble.ImageError.TheVariants.{NoImage, Input, OutOfMemory}

-- with a base: the image has to end before 2^32
abbrev pub based : ℕ → Result (List ℕ) (Cause × ℕ) → Result (ℕ × List ℕ) (Cause × ℕ)
based b (Ok bs) = cond (nat_lt (b + length bs) (2 ^ 32)) (Ok (b, bs)) (Err (PastTheEnd, 5))
based b (Err e) = Err e

-- the bytes begin where the base line ends
abbrev pub from_base : Result (ℕ × ℕ) Cause → List ℕ → Result (ℕ × List ℕ) (Cause × ℕ)
from_base (Err c) text = Err (c, 5)
from_base (Ok (b, n)) text = based b (hex None n (drop n text))

-- the image that a text spells
abbrev pub image_of : List ℕ → Result (ℕ × List ℕ) (Cause × ℕ)
image_of text = from_base (base_of text) text

-- the base and the bytes of an image
abbrev pub view : Image → ℕ × List ℕ
view i = (i.base, vec_items i.bytes)

-- an answer about a text that is read first: a reader that fails says nothing of the text
abbrev pub Reads : List ℕ → Result Image ImageError → Type 0
Reads text (Ok i) = Answers view text (image_of text) (Ok i)
Reads text (Err (NoImage t)) = Answers view text (image_of text) (Err (NoImage t))
Reads text (Err (Input e)) = ⊤
Reads text (Err OutOfMemory) = ⊤
