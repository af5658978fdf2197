use Rattle.std.proofs.Common.{arith, rules}
use Rattle.alu.proofs.Shifting.{signs}
use Rattle.alu.proofs.shifts.asr.Goals as goal

pub returns : goal.returns
returns c = let h = signs c.args.x c.args.k (omega arith) in search (rules, h)
