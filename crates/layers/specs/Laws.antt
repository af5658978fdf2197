-- The layers, in terms of the memories below them.
use Rattle.std.specs.Prelude.{◌≡◌, ℕ, ◌+◌, ◌<◌, ◌≤◌, Ok}
use Rattle.memory.specs.Cell.{on_read}
use Rattle.layers.specs.Lock.{locked_range}
use Rattle.memory.specs.Memory.{Meaning}
use Rattle.layers.specs.Split.{split_at}
use Rattle.memory.specs.declared.cell.Cell.TheVariants.{Absent, ReadOnly}

-- what a lock of a range means over what lies below
pub record Locks (start length : ℕ) (below lock : Meaning) : Type 0 where
  -- reads answer as below, everywhere
  pub reads : (address : ℕ) → on_read (lock address) ≡ on_read (below address)
  -- outside the range nothing is different
  pub before : (address : ℕ) → address < start → lock address ≡ below address
  pub behind : (address : ℕ) → start + length ≤ address → lock address ≡ below address
  -- inside it, what is absent below stays absent by the part that refuses it there
  pub absent : (address part : ℕ) → below address ≡ Absent part → lock address ≡ Absent part
  -- and each byte that is there is read-only by the lock, whether or not it can be written below
  pub present : (address byte : ℕ) → start ≤ address → address < start + length → on_read (below address) ≡ Ok byte → lock address ≡ ReadOnly byte 4

-- every lock, over every memory
abbrev pub LockLaw : Type 0
LockLaw = (start length : ℕ) (below : Meaning) → Locks start length below (locked_range start length below)

-- what a split means over its two memories
pub record Splits (border : ℕ) (first second split : Meaning) : Type 0 where
  pub below : (address : ℕ) → address < border → split address ≡ first address
  pub above : (address : ℕ) → border ≤ address → split address ≡ second address

-- every split, of any two memories
abbrev pub SplitLaw : Type 0
SplitLaw = (border : ℕ) (first second : Meaning) → Splits border first second (split_at border first second)
