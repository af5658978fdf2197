use Rattle.std.proofs.Common.{◌≡◌, ◌+◌, drop}
use Rattle.effect.specs.Access.{bytes_written}
use Rattle.effect.proofs.access.write.Given as goal

abbrev pub invariant-loop-i : goal.invariant-loop-i
invariant-loop-i g l =
    bytes_written (g.M.Memory.means l.initial.memory) l.at l.byte-items ≡ bytes_written (g.M.Memory.means l.memory) (l.at + l.i) (drop l.i l.byte-items)
