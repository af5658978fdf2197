-- The plain draft: what each call does to it and what it answers, from the call's arguments alone.
use Rattle.std.specs.Prelude.{ℕ, ◌-◌, min, Bool, cond, ◌&&◌, ◌||◌, List, [], ◌∷◌, ◌++◌, length, take, replicate, ◌==◌, slice_index_or, slice_set}
use Rattle.act.specs.declared.item.Item.{Item}
use Rattle.act.specs.declared.item.Item.TheVariants.{Branch}
use Rattle.isa.specs.declared.operation.Branch.TheVariants.{Br}
use Rattle.draft.specs.declared.label.LabelState.{LabelState}
use Rattle.draft.specs.declared.label.LabelState.TheVariants.{Free, Reserved, At}
use Rattle.draft.specs.declared.call.Call.{Call}
use Rattle.draft.specs.declared.call.Call.TheVariants.{Append, Place, Reserve, Settle, WriteOff, TakeBack}
use Rattle.draft.specs.Labels.{state_of, is_free, is_reserved, any_at}

pub record Plain : Type 0 where
  pub tag : ℕ
  pub size : ℕ
  pub items : List Item
  pub labels : List LabelState

-- an answer: done; a debt, by its tag and label; the item that was removed; or the number of a refusal
pub data Answer : Type 0 where
  done : Answer
  owes : ℕ → ℕ → Answer
  removed : Item → Answer
  refuses : ℕ → Answer

-- a draft at its making: no items, all labels free, and a table of at most 32,768 items
abbrev pub fresh : ℕ → ℕ → Plain
fresh t n = record { tag = t; size = min n 32768; items = []; labels = replicate 256 Free }

-- the end place: one past the last item
abbrev pub end_place : Plain → ℕ
end_place p = length p.items

-- the draft with label l in another state
abbrev pub with_label : Plain → ℕ → LabelState → Plain
with_label p l s = record { tag = p.tag; size = p.size; items = p.items; labels = slice_set p.labels l s }

-- the draft with other items
abbrev pub with_items : Plain → List Item → Plain
with_items p items = record { tag = p.tag; size = p.size; items = items; labels = p.labels }

-- the item at a place; past the last, one that says nothing
abbrev pub item_at : List Item → ℕ → Item
item_at items n = slice_index_or items n (Branch Br 0)

-- the item table is full
abbrev pub full : Plain → Bool
full p = length p.items == p.size

-- the label is free
abbrev pub free : Plain → ℕ → Bool
free p l = is_free (state_of p.labels l)

-- a debt of tag t for label l can be settled here
abbrev pub owed : Plain → ℕ → ℕ → Bool
owed p t l = t == p.tag && is_reserved (state_of p.labels l)

-- the last item cannot be taken back: there is none, or a label stands at the end place
abbrev pub fixed : Plain → Bool
fixed p = length p.items == 0 || any_at (end_place p) p.labels

-- the draft after a call; write off and a refused call change nothing
abbrev pub after : Plain → Call → Plain
after p (Append item) = cond (full p) p (with_items p (p.items ++ item ∷ []))
after p (Place l) = cond (free p l) (with_label p l (At (end_place p))) p
after p (Reserve l) = cond (free p l) (with_label p l Reserved) p
after p (Settle t l) = cond (owed p t l) (with_label p l (At (end_place p))) p
after p (WriteOff t l) = p
after p TakeBack = cond (fixed p) p (with_items p (take (end_place p - 1) p.items))

-- what it answers
abbrev pub says : Plain → Call → Answer
says p (Append item) = cond (full p) (refuses 7) done
says p (Place l) = cond (free p l) done (refuses 8)
says p (Reserve l) = cond (free p l) (owes p.tag l) (refuses 8)
says p (Settle t l) = cond (owed p t l) done (refuses 9)
says p (WriteOff t l) = done
says p TakeBack = cond (fixed p) (refuses 10) (removed (item_at p.items (end_place p - 1)))
