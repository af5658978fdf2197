use Rattle.std.proofs.Common.{◌≡◌, ◌+◌, ◌-◌}
use Rattle.effect.specs.Access.{bytes_writable}
use Rattle.effect.proofs.access.ask.Given as goal

abbrev pub invariant-loop-i : goal.invariant-loop-i
invariant-loop-i g l =
    bytes_writable l.count (g.M.Memory.means l.memory) l.at ≡ bytes_writable (l.count - l.i) (g.M.Memory.means l.memory) (l.at + l.i)
