use Rattle.std.proofs.Common.{rules}
use Rattle.effect.proofs.Spans.{ask_turn}
use Rattle.effect.proofs.access.ask.Goals as goal

pub loop-i-preserved : goal.loop-i-preserved
loop-i-preserved g c =
    ask_turn (g.M.Memory.means c.args.memory.now) c.args.at c.args.count c.loop-i.i _ c.loop-i.invariant c.loop-i-test.true (search rules)
