-- Shifts of 1, and masks made of them.
use Rattle.std.proofs.Common.{◌≡◌, ℕ, suc, ◌+◌, ◌-◌, ◌*◌, ◌%◌, ◌^◌, ◌<◌, ◌≤◌, ap, ◌∙◌, mod-eq_of_lt, add-mul, one-mul, arith, pow_mono}
use lib.Bits.{bit_and}
use lib.Pow.{pow-lt}
use Rattle.std.proofs.lemmas.Nat.{and_mask, pow-add, pow_pos, mod_low}

pub one_shifted : (k : ℕ) → k < 32 → 1 * 2 ^ k % 4294967296 ≡ 2 ^ k
one_shifted k l = ap (λ n. n % 4294967296) (one-mul (2 ^ k)) ∙ mod-eq_of_lt (pow-lt l)

pub masked : (n k : ℕ) → k < 32 → bit_and n (1 * 2 ^ k % 4294967296 - 1) ≡ n % 2 ^ k
masked n k l = ap (λ m. bit_and n (m - 1)) (one_shifted k l) ∙ and_mask n k

pub halved : (k : ℕ) → 1 ≤ k → 2 ^ k ≡ 2 * 2 ^ (k - 1)
halved k l = let e : k ≡ 1 + (k - 1) = omega arith in ap (λ i. 2 ^ i) e ∙ pow-add 2 1 (k - 1)

pub at_most : (k : ℕ) → k ≤ 26 → 2 ^ k ≤ 67108864
at_most k l = pow_mono l

-- the low k bits of a negative number in 32 bits
pub low_of_negative : (k n : ℕ) → k ≤ 32 → n < 2 ^ k → (4294967296 - suc n) % 2 ^ k ≡ 2 ^ k - suc n
low_of_negative k n l b =
    let t : 32 ≡ 32 - k + k = omega arith in
    let e : 4294967296 ≡ 2 ^ (32 - k) * 2 ^ k = ap (λ i. 2 ^ i) t ∙ pow-add 2 (32 - k) k in
    let p : 1 ≤ 2 ^ (32 - k) = pow_pos (32 - k) in
    let q = 2 ^ (32 - k) - 1 in
    let s : 2 ^ (32 - k) ≡ q + 1 = omega arith in
    let d : 2 ^ (32 - k) * 2 ^ k ≡ q * 2 ^ k + 2 ^ k = ap (λ m. m * 2 ^ k) s ∙ (add-mul q 1 (2 ^ k)) ∙ ap (λ m. q * 2 ^ k + m) (one-mul (2 ^ k)) in
    let f : 4294967296 - suc n ≡ q * 2 ^ k + (2 ^ k - suc n) = omega (arith, e, d) in
    ap (λ m. m % 2 ^ k) f ∙ mod_low q k (2 ^ k - suc n) (omega arith)
