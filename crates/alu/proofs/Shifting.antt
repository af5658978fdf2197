-- Rotation by parts, and the sign's shift.
use Rattle.std.proofs.Common.{◌≡◌, ℕ, zero, suc, ◌+◌, ◌-◌, ◌*◌, ◌/◌, ◌%◌, ◌^◌, ◌<◌, ◌≤◌, min, sym, ap, ◌∙◌, subst, inl, inr, add-zero, arith, w32, to_z, of_z}
use Rattle.std.proofs.Math.Nat.{pow-le-pow_right}
use lib.Bits.{bit_or, or_self}
use lib.Signed.{shr_z}
use Rattle.std.proofs.lemmas.Nat.{mod-pow-add, shl-shr, shr_below, or_shifted, pow-add, pow_pos, div-mul-add, mod-mul-add, mod_below, div_below, div-add-mod'}
use Rattle.std.proofs.lemmas.Bool.{cond-true, lt-ltb, cases_lt}
use Rattle.std.proofs.lemmas.Int.{ints}
use Rattle.std.proofs.lemmas.Bool.Decides.{nat_tests}
use Rattle.alu.specs.Values.{asr, rotl}

-- a shifted word, modulo the power
left : (x j k : ℕ) → x * 2 ^ k % 2 ^ (j + k) ≡ (x % 2 ^ j) * 2 ^ k
left x j k =
    let e : x * 2 ^ k % 2 ^ k ≡ 0 = ap (λ n. n % 2 ^ k) (sym (add-zero (x * 2 ^ k))) ∙ mod-mul-add x (2 ^ k) 0 (pow_pos k) in
    mod-pow-add (x * 2 ^ k) j k ∙ (ap (λ q. (q % 2 ^ j) * 2 ^ k + x * 2 ^ k % 2 ^ k) (shl-shr x k) ∙ omega (arith, e))

-- what leaves above and what comes in below, joined or added
turned : (x j k w : ℕ) → j + k ≡ w → x < 2 ^ w → bit_or (x * 2 ^ k % 2 ^ w) (x / 2 ^ j) ≡ x * 2 ^ k % 2 ^ w + x / 2 ^ j
turned x j k w is h =
    let f : k + j ≡ w = omega arith in
    let low : x / 2 ^ j < 2 ^ k = shr_below x k j (rw f h) in
    rw (← is, left x j k) (or_shifted (x % 2 ^ j) k (x / 2 ^ j) low)

-- the kit's rotation is ours
pub rotated : (x k : ℕ) → x < 2 ^ 32 → k < 32 → bit_or (x * 2 ^ (k % 32) % 2 ^ 32) (x / 2 ^ ((32 - k % 32) % 32)) ≡ rotl x k
rotated x zero h b =
    let e : x * 1 % 2 ^ 32 ≡ x = omega arith in
    let f : x / 1 ≡ x = omega arith in
    rw (e, f) (or_self x ∙ omega arith)
rotated x (suc k) h b =
    let e : suc k % 32 ≡ suc k = omega arith in
    let f : (32 - suc k) % 32 ≡ 32 - suc k = omega arith in
    rw (e, f) (turned x (32 - suc k) (suc k) 32 (omega arith) h ∙ sym (cond-true _ _ _ (lt-ltb _ _ b)))

mirror : (d q s r : ℕ) → r < d → ((suc q + s) * d - suc (q * d + r)) / d ≡ s
mirror d q s r h =
    let split : (suc q + s) * d - suc (q * d + r) ≡ s * d + (d - suc r) = omega arith in
    let small : d - suc r < d = omega arith in
    ap (λ n. n / d) split ∙ div-mul-add s d (d - suc r) small

-- the complement of a quotient
mirrored : (d e x : ℕ) → 0 < d → x < e * d → (e * d - suc x) / d + suc (x / d) ≡ e
mirrored d e x p h =
    let below : x / d < e = div_below x d e p h in
    let is : suc (x / d) + (e - suc (x / d)) ≡ e = omega arith in
    let m = mirror d (x / d) (e - suc (x / d)) (x % d) (mod_below x d p) in
    let n : (e * d - suc x) / d ≡ e - suc (x / d) = subst (λ t. (t * d - suc x) / d ≡ e - suc (x / d)) is (subst (λ t. ((suc (x / d) + (e - suc (x / d))) * d - suc t) / d ≡ e - suc (x / d)) (div-add-mod' x d) m) in
    omega arith

-- the complement of a shifted complement
turned_over : (x k : ℕ) → x < 2 ^ 32 → k < 32 → (2 ^ 32 - suc x) / 2 ^ k + suc (x / 2 ^ k) ≡ 2 ^ (32 - k)
turned_over x k h b =
    let all : 32 - k + k ≡ 32 = omega arith in
    let whole : 2 ^ (32 - k) * 2 ^ k ≡ 2 ^ 32 = sym (pow-add 2 (32 - k) k) ∙ ap (λ n. 2 ^ n) all in
    subst (λ t. (t - suc x) / 2 ^ k + suc (x / 2 ^ k) ≡ 2 ^ (32 - k)) whole (mirrored (2 ^ k) (2 ^ (32 - k)) x (pow_pos k) (rw whole h))

power : (k : ℕ) → 2 ^ (32 - k) ≤ 2 ^ 32
power k = let h : 32 - k ≤ 32 = omega arith in pow-le-pow_right (omega arith) h

pub shifted : (x k : ℕ) → x < 2 ^ 32 → k < 32 → of_z w32 (shr_z (to_z w32 x) (2 ^ k)) ≡ asr x k
shifted x k h b = let m = turned_over x k h b in let p = power k in grind (arith, ints, nat_tests)

pub filled : (x k : ℕ) → x < 2 ^ 32 → 32 ≤ k → of_z w32 (shr_z (to_z w32 x) (2 ^ 31)) ≡ asr x k
filled x k h b = grind (arith, ints, nat_tests)

-- a shift of the signed word by at most 31
pub signs : (x k : ℕ) → x < 2 ^ 32 → of_z w32 (shr_z (to_z w32 x) (2 ^ min k 31)) ≡ asr x k
signs x k h =
    elim (cases_lt k 32) [
      | inl b ↦ (let e : min k 31 ≡ k = omega arith in rw e (shifted x k h b))
      | inr b ↦ (let e : min k 31 ≡ 31 = omega arith in rw e (filled x k h b))
    ]
