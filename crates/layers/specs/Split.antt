use Rattle.std.specs.Prelude.{ℕ, cond, nat_lt}
use Rattle.memory.specs.Memory.{Meaning}
use Rattle.layers.specs.declared.split.Split.{Split}

-- one meaning below a border, another from there on
abbrev pub split_at : ℕ → Meaning → Meaning → Meaning
split_at border first second address = cond (nat_lt address border) (first address) (second address)

-- a split's meaning, from what its two memories mean
abbrev pub split_meaning : {F S : Type 0} → (F → Meaning) → (S → Meaning) → Split F S → Meaning
split_meaning means_first means_second split =
    split_at split.border (means_first split.first) (means_second split.second)
