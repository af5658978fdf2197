-- What is fetched, from the bytes of the code past the PC.
use Rattle.std.proofs.Common.{◌≡◌, ℕ, ◌-◌, ◌≤◌, false, ◌⊎◌, List, [], length, drop, Ok, Err, sym, ap, ◌∙◌, inl, inr, arith}
use Rattle.std.proofs.lemmas.List.{drop_all}
use Rattle.std.proofs.lemmas.Bool.{cond-true, cond-false, le-ltb, lt-ltb, cases_lt}
use Rattle.std.proofs.lemmas.Bool.Decides.{nat_tests}
use Rattle.decoder.specs.Decoded.{Front, decoded}
use Rattle.decoder.proofs.Fronts.{few_is, decoded_length}
use Rattle.refusal.specs.declared.refusal.Refusal.TheVariants.{NoInstruction}
use Rattle.memory.specs.Span.{in_range}
use Rattle.cpu.specs.Step.{placed, fetched}

-- an instruction takes two or four bytes, so that the next begins at an even address too
pub length_fits : (bytes : List ℕ) (f : Front) → Ok f ≡ decoded bytes → (f.length ≡ 2) ⊎ (f.length ≡ 4)
length_fits bytes f e = decoded_length bytes f (sym e)

-- outside the code no instruction begins
pub fetch_outside : (base pc : ℕ) (code : List ℕ) → in_range base (length code) pc ≡ false → Err (NoInstruction pc) ≡ fetched base pc code
fetch_outside base pc code h =
    elim (cases_lt pc base) [
      | inl low ↦ sym (cond-true _ _ _ (lt-ltb _ _ low))
      | inr high ↦ (
          let far : length code ≤ pc - base = grind (arith, nat_tests) in
          let e : drop (pc - base) code ≡ [] = drop_all (pc - base) code far in
          ap (placed pc) (sym (few_is [] (omega arith))) ∙ ap (λ b. placed pc (decoded b)) (sym e) ∙ sym (cond-false _ _ _ (le-ltb _ _ high)))
    ]

pub ruleset fetching = (fetch_outside, length_fits)
