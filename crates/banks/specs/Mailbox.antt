use Rattle.std.specs.Prelude.{ℕ, List}
use Rattle.memory.specs.Memory.{Meaning}
use Rattle.memory.specs.Span.{bytes_at}
use Rattle.memory.specs.declared.cell.Cell.TheVariants.{Writable}
use Rattle.banks.specs.declared.mailbox.Mailbox.{Mailbox}

-- bytes in a mailbox at a base: writable, and absent elsewhere; a mailbox is part 3
abbrev pub boxed : ℕ → List ℕ → Meaning
boxed = bytes_at Writable 3

-- what a mailbox means
abbrev pub mailbox_meaning : Mailbox → Meaning
mailbox_meaning mailbox = boxed mailbox.base mailbox.bytes
