-- The first bytes of a code, and the bytes of a form in front of others.
use Rattle.std.proofs.Common.{◌≡◌, ℕ, ◌+◌, ◌*◌, ◌/◌, ◌%◌, ◌<◌, ltb, ◌⊎◌, List, [], ◌∷◌, length, Some, None, Ok, Option, refl, ap, ◌∙◌, sym, inl, inr, arith}
use Rattle.std.proofs.lemmas.Bool.{cond-true, cond-false, cond_both, lt-ltb, le-ltb}
use Rattle.isa.specs.declared.operation.Instruction.{Instruction}
use Rattle.isa.specs.declared.form.Form.TheVariants.{Short, Long}
use Rattle.isa.specs.Bytes.{half}
use Rattle.table.specs.Diagram.{short, long}
use Rattle.table.proofs.Decoding.{decodes_exactly, told_apart}
use Rattle.decoder.specs.Decoded.{Front, too_few, known, decoded_long, decoded, ReadsBack}

pub few_is : (xs : List ℕ) → length xs < 2 → decoded xs ≡ too_few
unfolding decoded
few_is [] h = refl
few_is (a ∷ []) h = refl
few_is (a ∷ b ∷ xs) h = absurd (omega arith)

pub reads_back : ReadsBack
unfolding decoded
reads_back (Short h) i bytes s =
    let e : half (h % 256) (h / 256) ≡ h = omega arith in
    let l = told_apart.halfword i h s in
    cond-true _ _ _ (lt-ltb (half (h % 256) (h / 256)) 0xC000 (omega (arith, e, l))) ∙ rw (e, (decodes_exactly short).decoded i h s) refl
reads_back (Long w) i bytes s =
    let b = told_apart.word i w s in
    let e : half (w / 65536 % 256) (w / 16777216) * 65536 + half (w % 256) (w / 256 % 256) ≡ w = omega (arith, b.0, b.1) in
    cond-false _ _ _ (le-ltb (half (w / 65536 % 256) (w / 16777216)) 0xC000 (omega (arith, b.0, b.1))) ∙ rw (e, (decodes_exactly long).decoded i w s) refl

-- an instruction takes two bytes or four
known_length : (o : Option Instruction) (n : ℕ) (bytes : List ℕ) (f : Front) → known o n bytes ≡ Ok f → f.length ≡ n
known_length None n bytes f e = cc
known_length (Some i) n bytes f e = let g : record { instruction = i; length = n; rest = bytes } ≡ f = cc in ap (λ (h : Front). h.length) (sym g)

long_length : (u : ℕ) (xs : List ℕ) (f : Front) → decoded_long u xs ≡ Ok f → f.length ≡ 4
long_length u [] f e = cc
long_length u (a ∷ []) f e = cc
long_length u (a ∷ b ∷ xs) f e = known_length _ 4 xs f e

pub decoded_length : (xs : List ℕ) (f : Front) → decoded xs ≡ Ok f → (f.length ≡ 2) ⊎ (f.length ≡ 4)
unfolding decoded
decoded_length [] f e = absurd cc
decoded_length (a ∷ []) f e = absurd cc
decoded_length (a ∷ b ∷ xs) f e =
    cond_both (ltb (half a b) 0xC000) _ _ (λ r. r ≡ Ok f → (f.length ≡ 2) ⊎ (f.length ≡ 4)) (λ _ s. inl (known_length _ 2 xs f s)) (λ _ s. inr (long_length (half a b) xs f s)) e
