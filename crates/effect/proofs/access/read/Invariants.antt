use Rattle.std.proofs.Common.{◌≡◌, ◌+◌, ◌-◌, length, take}
use Rattle.effect.specs.Access.{bytes_at}
use Rattle.effect.proofs.Spans.{after}
use Rattle.effect.proofs.access.read.Given as goal

abbrev pub invariant-loop-i : goal.invariant-loop-i
invariant-loop-i g l =
    (length l.bytes ≡ g.row.N)
    × (bytes_at g.row.N (g.M.Memory.means l.memory) l.at ≡ after (take l.i l.bytes) (bytes_at (g.row.N - l.i) (g.M.Memory.means l.memory) (l.at + l.i)))
