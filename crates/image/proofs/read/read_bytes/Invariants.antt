use Rattle.std.proofs.Common.{◌≡◌, ◌-◌, drop, None, vec_items, length}
use Rattle.image.specs.Hex.{after, hex}
use Rattle.image.proofs.read.read_bytes.Given as goal

-- what was read, and what is to come, is what the whole text spells
abbrev pub invariant-loop-first : goal.invariant-loop-first
invariant-loop-first l = after (vec_items l.bytes) (hex None l.at (drop l.at l.text)) ≡ hex None l.from (drop l.from l.text)

abbrev pub decreases-loop-first : goal.decreases-loop-first
decreases-loop-first l = length l.text - l.at
