use Rattle.std.proofs.Common.{◌≡◌, ◌<◌, ◌^◌, drop}
use Rattle.image.specs.Base.{number}
use Rattle.image.proofs.base.number.Given as goal

-- the digits so far, and those to come, make the number of all; it has as many digits as were read
abbrev pub invariant-loop-byte : goal.invariant-loop-byte
invariant-loop-byte l = (number l.number (drop l.byte-index l.digits) ≡ number 0 l.digits) × (l.number < 16 ^ l.byte-index)
