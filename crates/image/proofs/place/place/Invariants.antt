use Rattle.std.proofs.Common.{◌≡◌, ◌+◌, ◌≤◌, take}
use Rattle.image.specs.Place.{place_of}
use Rattle.image.proofs.place.place.Given as goal

-- the place after the bytes so far, which have at most as many lines and columns
abbrev pub invariant-loop-byte : goal.invariant-loop-byte
invariant-loop-byte l = (place_of (take l.byte-index l.byte-items) ≡ (l.line, l.column)) × (l.line ≤ l.byte-index + 1) × (l.column ≤ l.byte-index + 1)
