-- The bytes that a text spells, or the cause and the first index at which it does not.
use Rattle.std.specs.Prelude.{ℕ, ◌+◌, List, [], ◌∷◌, ◌++◌, Some, None, Ok, Err, Option, Result}
use Rattle.image.specs.Digit.{next}
use Rattle.image.specs.declared.digit.Turn.TheVariants.{Gap, High, Byte}
use Rattle.image.specs.declared.trouble.Cause.{Cause}
use Rattle.image.specs.declared.trouble.Cause.TheVariants.{HalfByte}

-- bytes in front of what is read
abbrev pub after : List ℕ → Result (List ℕ) (Cause × ℕ) → Result (List ℕ) (Cause × ℕ)
after xs (Ok ys) = Ok (xs ++ ys)
after xs (Err e) = Err e

-- at the text's end no byte is half read
abbrev pub at_end : Option ℕ → ℕ → Result (List ℕ) (Cause × ℕ)
at_end None i = Ok []
at_end (Some h) i = Err (HalfByte, i)

-- what a text spells from index i on, after a high digit or between bytes
abbrev pub hex : Option ℕ → ℕ → List ℕ → Result (List ℕ) (Cause × ℕ)
hex high i [] = at_end high i
hex high i (b ∷ bs) =
    elim (next high b) [ Ok t ↦ elim t [ Gap ↦ hex None (i + 1) bs | High d ↦ hex (Some d) (i + 1) bs | Byte v ↦ after (v ∷ []) (hex None (i + 1) bs) ] | Err c ↦ Err (c, i) ]
