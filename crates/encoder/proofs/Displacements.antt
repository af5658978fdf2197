-- Displacements in two's complement: when they fit, and their bits.
use Rattle.std.proofs.Common.{◌≡◌, refl, Bool, true, false, nat_lt, Option, ℕ, suc, ◌+◌, ◌-◌, ◌*◌, ◌%◌, ◌^◌, ◌<◌, ◌≤◌, ℤ, pos, negsuc, Some, None, sym, ap, ◌∙◌, mod-eq_of_lt, arith, pow_mono, w32, SFits, of_z}
use Rattle.std.proofs.lemmas.Bool.{cond-true, cond-false, lt-ltb, le-ltb, ltb-true, ltb-false}
use Rattle.std.specs.Bool.{then_some}
use Rattle.table.specs.Encode.{field_of, plus}
use Rattle.table.proofs.Masks.{halved, low_of_negative}

-- half the range of k bits
pub record Half (k : ℕ) : Type 0 where
  pub twice : 2 ^ k ≡ 2 * 2 ^ (k - 1)
  pub most : 2 ^ (k - 1) ≤ 33554432

pub half_of : (k : ℕ) → 1 ≤ k → k ≤ 26 → Half k
half_of k l u = let h : k - 1 ≤ 25 = omega arith in record { twice = halved k l; most = pow_mono h }

-- a displacement that fits, and its bits
pub fits : (k : ℕ) (d : ℤ) → 1 ≤ k → k ≤ 26 → SFits w32 d → (of_z w32 d + 2 ^ (k - 1)) % 4294967296 < 2 * 2 ^ (k - 1) → Some (of_z w32 d % 2 ^ k) ≡ field_of k d
fits k (pos n) l u s e =
    let h = half_of k l u in
    let b : n < 2147483648 = s.sfits in
    let g : n < 2 ^ (k - 1) = omega (arith, h.most) in
    let m : n % 2 ^ k ≡ n = mod-eq_of_lt (omega (arith, h.twice)) in
    ap Some m ∙ sym (cond-true _ (Some n) None (lt-ltb n (2 ^ (k - 1)) g))
fits k (negsuc n) l u s e =
    let h = half_of k l u in
    let b : n < 2147483648 = s.sfits in
    let g : n < 2 ^ (k - 1) = omega (arith, h.most) in
    let m : (4294967296 - suc n) % 2 ^ k ≡ 2 ^ k - suc n = low_of_negative k n (omega arith) (omega (arith, h.twice)) in
    ap Some m ∙ sym (cond-true _ (Some (2 ^ k - suc n)) None (lt-ltb n (2 ^ (k - 1)) g))

-- one that does not
misses : (k : ℕ) (d : ℤ) → 1 ≤ k → k ≤ 26 → SFits w32 d → 2 * 2 ^ (k - 1) ≤ (of_z w32 d + 2 ^ (k - 1)) % 4294967296 → None ≡ field_of k d
misses k (pos n) l u s e =
    let h = half_of k l u in
    let b : n < 2147483648 = s.sfits in
    let g : 2 ^ (k - 1) ≤ n = omega (arith, h.most) in
    sym (cond-false _ (Some n) None (le-ltb n (2 ^ (k - 1)) g))
misses k (negsuc n) l u s e =
    let h = half_of k l u in
    let b : n < 2147483648 = s.sfits in
    let g : 2 ^ (k - 1) ≤ n = omega (arith, h.most) in
    sym (cond-false _ (Some (2 ^ k - suc n)) None (le-ltb n (2 ^ (k - 1)) g))

by_cases : (b : Bool) (w n : ℕ) (r : Option ℕ) → (b ≡ true → Some n ≡ r) → (b ≡ false → None ≡ r) → then_some b (w + n) ≡ plus w r
by_cases true w n r p q = ap (plus w) (p refl)
by_cases false w n r p q = ap (plus w) (q refl)

-- a word and the bits, if the displacement fits
pub below_word : (w k : ℕ) (d : ℤ) → 1 ≤ k → k ≤ 26 → SFits w32 d → then_some (nat_lt ((of_z w32 d + 2 ^ (k - 1)) % 4294967296) (2 * 2 ^ (k - 1))) (w + of_z w32 d % 2 ^ k) ≡ plus w (field_of k d)
below_word w k d l u s = by_cases _ w _ (field_of k d) (λ e. fits k d l u s (ltb-true _ _ e)) (λ e. misses k d l u s (ltb-false _ _ e))
