-- Mnemonics by their names.
use Rattle.std.specs.Prelude.{◌≡◌, ℕ, List, Some, None, Option}
use Rattle.text.specs.declared.mnemonic.Mnemonic.{Mnemonic}
use Rattle.text.specs.Names.{name}

-- the mnemonic that has the name, or none where no mnemonic has it
abbrev pub Named : List ℕ → Option Mnemonic → Type 0
Named s (Some m) = name m ≡ s
Named s None = (m : Mnemonic) → name m ≡ s → ⊥
