use Rattle.std.proofs.Common.{rules}
use Rattle.effect.proofs.Spans.{read_turn}
use Rattle.effect.proofs.access.read.Goals as goal

pub loop-i-preserved : goal.loop-i-preserved
loop-i-preserved g c =
    let e = c.loop-i.invariant in
    (search rules, read_turn (g.M.Memory.means c.args.memory.now) c.args.at g.row.N c.loop-i.i c.loop-i.bytes _ e.1 c.in_ok-bytes.field-0 c.loop-i-test.true e.0 (search rules))
