use Rattle.std.proofs.Common.{◌≡◌, ◌-◌, ◌*◌, ◌/◌, ◌%◌, ◌^◌, ◌≤◌, sym, ap, ◌∙◌, arith}
use Rattle.std.proofs.lemmas.Nat.{and_le_r}
use Rattle.table.proofs.Masks.{masked, one_shifted, at_most}
use Rattle.table.proofs.Packing.{slice_is}
use Rattle.decoder.specs.Fields.{width}
use Rattle.decoder.proofs.fields.Bits.of.Goals as goal

pub returns-clause-value : goal.returns-clause-value
returns-clause-value c =
    let form = c.args.form in
    let self = c.args.self in
    masked (form / 2 ^ c.self.inside.1) c.width.result (omega (arith, c.width.ensures.bound)) ∙ ap (λ k. form / 2 ^ c.self.inside.1 % 2 ^ k) c.width.ensures.value ∙ ap (λ b. form / 2 ^ b.1 % 2 ^ width self) c.self.view_is ∙ sym (slice_is form self.1 (width self))

pub returns-clause-bound : goal.returns-clause-bound
returns-clause-bound c =
    let k = c.width.result in
    let e : 1 * 2 ^ k % 4294967296 ≡ 2 ^ k = one_shifted k (omega (arith, c.width.ensures.bound)) in
    let m : 2 ^ k ≤ 67108864 = at_most k c.width.ensures.bound.1 in
    let a = and_le_r (c.args.form / 2 ^ c.self.inside.1) (1 * 2 ^ k % 4294967296 - 1) in
    omega (arith, a, e, m)
