-- Two digits of a text, read at once.
use Rattle.std.proofs.Common.{◌≡◌, ℕ, ◌+◌, ◌<◌, List, [], ◌∷◌, ◌++◌, length, get_or, drop, Some, None, Ok, Err, Result, sym, refl, ap, ◌∙◌, append_assoc, add-one, drop-cons, arith}
use Rattle.image.specs.Digit.{next}
use Rattle.image.specs.Hex.{after, hex}
use Rattle.image.specs.declared.digit.Turn.TheVariants.{High, Byte}
use Rattle.image.specs.declared.trouble.Cause.{Cause}

after_after : (xs ys : List ℕ) (r : Result (List ℕ) (Cause × ℕ)) → after (xs ++ ys) r ≡ after xs (after ys r)
after_after xs ys (Ok zs) = ap Ok (append_assoc xs ys zs)
after_after xs ys (Err e) = refl

front : (text : List ℕ) (i : ℕ) → i < length text → drop i text ≡ get_or text i 0 ∷ drop (i + 1) text
front text i inside = rw (add-one, drop-cons text i 0)

-- a byte of two digits comes before what the text spells past them
pub pair : (text xs : List ℕ) (i d v : ℕ) → i + 1 < length text → next None (get_or text i 0) ≡ Ok (High d) → next (Some d) (get_or text (i + 1) 0) ≡ Ok (Byte v) → after xs (hex None i (drop i text)) ≡ after (xs ++ v ∷ []) (hex None (i + 1 + 1) (drop (i + 1 + 1) text))
pair text xs i d v inside high low =
    let first : hex None i (drop i text) ≡ hex (Some d) (i + 1) (drop (i + 1) text) = ap (hex None i) (front text i (omega arith)) ∙ rw (high, hex) in
    let second : hex (Some d) (i + 1) (drop (i + 1) text) ≡ after (v ∷ []) (hex None (i + 1 + 1) (drop (i + 1 + 1) text)) = ap (hex (Some d) (i + 1)) (front text (i + 1) inside) ∙ rw (low, hex) in
    ap (after xs) (first ∙ second) ∙ sym (after_after xs (v ∷ []) (hex None (i + 1 + 1) (drop (i + 1 + 1) text)))
