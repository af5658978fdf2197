use Rattle.std.proofs.Common.{◌∙◌, arith}
use Rattle.alu.proofs.Shifting.{rotated}
use Rattle.alu.proofs.shifts.rotl.Goals as goal

pub returns-then-k-lt32 : goal.returns-then-k-lt32
returns-then-k-lt32 c = c.rotate_left.ensures ∙ rotated c.args.x c.args.k (omega arith) c.if-k-lt32.true
