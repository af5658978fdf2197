-- The calls of a real draft, by the plain one.
use Rattle.std.specs.Prelude.{◌≡◌, ℕ, Ok, Err, vec_items, Result}
use Rattle.refusal.specs.declared.refusal.Refusal.{Refusal}
use Rattle.refusal.specs.Numbers.{number}
use Rattle.act.specs.declared.item.Item.{Item}
use Rattle.draft.specs.declared.draft.Draft.{Draft}
use Rattle.draft.specs.declared.debt.Debt.{Debt}
use Rattle.draft.specs.declared.call.Call.{Call}
use Rattle.draft.specs.Plain.{Plain, Answer, done, owes, removed, refuses, fresh, after, says}

-- the plain draft that a draft is
abbrev pub plain : Draft → Plain
plain d = record { tag = d.tag; size = d.size; items = vec_items d.items; labels = d.labels.states }

-- what a call's result answers
abbrev pub answered : Result (Unit {0}) Refusal → Answer
answered (Ok x) = done
answered (Err e) = refuses (number e)

-- the same where a debt is handed out
abbrev pub answered_debt : Result Debt Refusal → Answer
answered_debt (Ok debt) = owes debt.tag debt.label
answered_debt (Err e) = refuses (number e)

-- where a refusal hands a debt back
abbrev pub answered_back : Result (Unit {0}) (Refusal × Debt) → Answer
answered_back (Ok x) = done
answered_back (Err e) = refuses (number e.0)

-- where an item is removed
abbrev pub answered_item : Result Item Refusal → Answer
answered_item (Ok item) = removed item
answered_item (Err e) = refuses (number e)

-- a call on the draft d answered so and left the draft e: the contract of each call
pub record Does (d : Draft) (call : Call) (answer : Answer) (e : Draft) : Type 0 where
  pub after : plain e ≡ after (plain d) call
  pub says : answer ≡ says (plain d) call

-- making a draft of this tag and size gave d
abbrev pub Makes : ℕ → ℕ → Draft → Type 0
Makes tag size d = plain d ≡ fresh tag size
