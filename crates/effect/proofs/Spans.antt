-- Bytes one after another, and the halves and words that they make.
use Rattle.std.proofs.Common.{◌≡◌, ℕ, suc, ◌+◌, ◌-◌, ◌<◌, List, [], ◌∷◌, ◌++◌, length, take, set, Ok, Err, Result, sym, refl, ap, ◌∙◌, arith, append_assoc}
use Rattle.std.proofs.lemmas.List.{take_more_set}
use Rattle.memory.specs.Memory.{Meaning}
use Rattle.effect.specs.declared.trap.Trap.{Trap}
use Rattle.effect.specs.Access.{and_then, byte_at, byte_writable, bytes_at, bytes_writable}

-- bytes read before others
abbrev pub after : List ℕ → Result (List ℕ) Trap → Result (List ℕ) Trap
after p r = and_then r (λ bs. Ok (p ++ bs))

after_more : (p : List ℕ) (b : ℕ) (r : Result (List ℕ) Trap) → after p (and_then r (λ bs. Ok (b ∷ bs))) ≡ after (p ++ b ∷ []) r
after_more p b (Ok bs) = ap Ok (sym (append_assoc p (b ∷ []) bs))
after_more p b (Err q) = refl

module _ (m : Meaning) (a n i : ℕ) where
  next_is : a + i + 1 ≡ a + (i + 1)
  next_is = omega arith

  module _ (xs : List ℕ) (R : Result (List ℕ) Trap) (so : R ≡ after (take i xs) (bytes_at (n - i) m (a + i))) where
    pub read_turn : (b : ℕ) → i < n → length xs ≡ n → byte_at m (a + i) ≡ Ok b → R ≡ after (take (i + 1) (set xs i b)) (bytes_at (n - (i + 1)) m (a + (i + 1)))
    read_turn b h k e =
        let s : n - i ≡ suc (n - (i + 1)) = omega arith in
        so
        ∙ ap (λ j. after (take i xs) (bytes_at j m (a + i))) s
        ∙ ap (λ r. after (take i xs) (and_then r (λ b. and_then (bytes_at (n - (i + 1)) m (a + i + 1)) (λ bs. Ok (b ∷ bs))))) e
        ∙ after_more (take i xs) b (bytes_at (n - (i + 1)) m (a + i + 1))
        ∙ ap (λ p. after p (bytes_at (n - (i + 1)) m (a + i + 1))) (sym (take_more_set xs i b (omega arith)))
        ∙ ap (λ c. after (take (i + 1) (set xs i b)) (bytes_at (n - (i + 1)) m c)) next_is

  module _ (R : Result (Unit {0}) Trap) (so : R ≡ bytes_writable (n - i) m (a + i)) where
    pub ask_turn : i < n → byte_writable m (a + i) ≡ Ok tt → R ≡ bytes_writable (n - (i + 1)) m (a + (i + 1))
    ask_turn h e =
        let s : n - i ≡ suc (n - (i + 1)) = omega arith in
        so
        ∙ ap (λ j. bytes_writable j m (a + i)) s
        ∙ ap (λ r. and_then r (λ _. bytes_writable (n - (i + 1)) m (a + i + 1))) e
        ∙ ap (λ c. bytes_writable (n - (i + 1)) m c) next_is
