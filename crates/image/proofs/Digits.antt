-- How large the numbers of a few hexadecimal digits are.
use Rattle.std.proofs.Common.{rules, ℕ, ◌<◌, ◌≤◌, ◌^◌, arith}
use Rattle.std.proofs.Math.Nat.{pow-le-pow_right}

-- after fewer than eight digits there is room for one more
pub has_room : (i : ℕ) → i < 8 → 16 ^ i ≤ 0x1000_0000
has_room i few = pow-le-pow_right {n = 16} (search rules) {i = i} {j = 7} (grind (arith, few))
