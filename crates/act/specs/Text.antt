-- The text of an item.
use Rattle.std.specs.Prelude.{ℕ, List, ◌++◌, codes, decimal}
use Rattle.text.specs.Names.{branch_name}
use Rattle.text.specs.Text.{text}
use Rattle.act.specs.declared.item.Item.{Item}
use Rattle.act.specs.declared.item.Item.TheVariants.{Act, Branch}

-- an act, or a branch to a label
abbrev pub item_text : Item → List ℕ
item_text (Act a) = text a.operation
item_text (Branch b label) = branch_name b ++ (codes " @" ++ decimal label)
