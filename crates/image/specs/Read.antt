-- What the reader answers.
use Rattle.std.specs.Prelude.{◌≡◌, ℕ, List, Some, Ok, Err, Result, ⊤}
use Rattle.image.specs.Place.{trouble_of}
use Rattle.image.specs.declared.trouble.Cause.{Cause}
use Rattle.image.specs.declared.trouble.ImageError.{ImageError}
use Rattle.image.specs.declared.trouble.ImageError.TheVariants.{NoImage, Input, OutOfMemory}

-- an answer is what the text means, as seen in a value, or the trouble at its line and column; without memory it says
-- nothing of the text
abbrev pub Answers : {V M : Type 0} → (V → M) → List ℕ → Result M (Cause × ℕ) → Result V ImageError → Type 0
Answers view text m (Ok v) = m ≡ Ok (view v)
Answers view text m (Err (NoImage t)) = trouble_of text m ≡ Some t
Answers view text m (Err (Input e)) = ⊥
Answers view text m (Err OutOfMemory) = ⊤
