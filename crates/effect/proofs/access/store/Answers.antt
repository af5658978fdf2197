use Rattle.std.proofs.Common.{◌≡◌, ◌/◌, arith, rules}
use Rattle.effect.proofs.access.store.Goals as goal

pub returns-in-Word-clause-after : goal.returns-in-Word-clause-after
returns-in-Word-clause-after g c =
    let v = c.args.value in
    let third : v / 256 / 256 ≡ v / 65536 = omega arith in
    let fourth : v / 256 / 256 / 256 ≡ v / 16777216 = omega arith in
    search (rules, third, fourth)
