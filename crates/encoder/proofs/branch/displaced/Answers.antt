use Rattle.std.proofs.Common.{◌≡◌, ◌+◌, ◌-◌, ◌*◌, ◌%◌, ◌^◌, nat_lt, ap, ◌∙◌, arith, to_z-of_z, w32, of_z}
use lib.Bits.{bit_and}
use Rattle.std.specs.Bool.{then_some}
use Rattle.std.proofs.lemmas.Nat.{pow_pos, mod_below}
use Rattle.table.proofs.Masks.{one_shifted, masked, at_most}
use Rattle.encoder.proofs.Displacements.{half_of, below_word}
use Rattle.encoder.proofs.branch.displaced.Goals as goal

pub overflow_mul-half : goal.overflow_mul-half
overflow_mul-half c =
    let k = c.args.width in
    let e = one_shifted (k - 1) (omega arith) in
    let h = half_of k c.requires.width.0 c.requires.width.1 in
    omega (arith, e, h.most)

pub overflow_add-word : goal.overflow_add-word
overflow_add-word c =
    let k = c.args.width in
    let s = c.cast_unsigned-bits.result in
    omega (arith, c.requires.room, masked s k (omega arith), mod_below s (2 ^ k) (pow_pos k), at_most k c.requires.width.1)

pub returns-clause-form : goal.returns-clause-form
returns-clause-form c =
    let k = c.args.width in
    let w = c.args.word in
    let s = c.cast_unsigned-bits.result in
    let h : 1 * 2 ^ (k - 1) % 4294967296 ≡ 2 ^ (k - 1) = one_shifted (k - 1) (omega arith) in
    let b : s ≡ of_z w32 c.args.halfwords = c.cast_unsigned-bits.ensures ∙ ap (of_z w32) (to_z-of_z c.ranges.halfwords) in
    let m : bit_and s (1 * 2 ^ k % 4294967296 - 1) ≡ of_z w32 c.args.halfwords % 2 ^ k = masked s k (omega arith) ∙ ap (λ n. n % 2 ^ k) b in
    c.then_some.ensures ∙ (λ i. then_some (nat_lt ((b i + h i) % 4294967296) (2 * h i)) (w + m i)) ∙ below_word w k c.args.halfwords c.requires.width.0 c.requires.width.1 c.ranges.halfwords
