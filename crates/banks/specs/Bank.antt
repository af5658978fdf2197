use Rattle.std.specs.Prelude.{ℕ, List, vec_items}
use Rattle.memory.specs.Memory.{Meaning}
use Rattle.memory.specs.Span.{bytes_at}
use Rattle.banks.specs.declared.bank.Bank.{Bank}
use Rattle.memory.specs.declared.cell.Cell.TheVariants.{Writable}

-- bytes in a bank at a base: writable, and absent elsewhere; a bank is part 1
abbrev pub banked : ℕ → List ℕ → Meaning
banked = bytes_at Writable 1

-- what a bank means
abbrev pub bank_meaning : Bank → Meaning
bank_meaning bank = banked bank.base (vec_items bank.bytes)
