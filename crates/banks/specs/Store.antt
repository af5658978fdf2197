use Rattle.std.specs.Prelude.{ℕ, List, vec_items}
use Rattle.memory.specs.Memory.{Meaning}
use Rattle.memory.specs.Span.{bytes_at}
use Rattle.memory.specs.declared.cell.Cell.TheVariants.{ReadOnly}
use Rattle.banks.specs.declared.store.Store.{Store}

-- bytes in a store at a base: read-only, and absent elsewhere; a store is part 2
abbrev pub stored : ℕ → List ℕ → Meaning
stored = bytes_at (λ byte. ReadOnly byte 2) 2

-- what a store means
abbrev pub store_meaning : Store → Meaning
store_meaning store = stored store.base (vec_items store.bytes)
