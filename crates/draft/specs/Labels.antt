-- Labels by their states.
use Rattle.std.specs.Prelude.{ℕ, ◌≤◌, Bool, true, false, ◌||◌, List, [], ◌∷◌, ◌==◌, slice_index_or}
use Rattle.draft.specs.declared.label.LabelState.{LabelState}
use Rattle.draft.specs.declared.label.LabelState.TheVariants.{Free, Reserved, At}

-- the state of label l
abbrev pub state_of : List LabelState → ℕ → LabelState
state_of labels l = slice_index_or labels l Free

-- the place of a label, and 0 where it has none
abbrev pub place_of : LabelState → ℕ
place_of Free = 0
place_of Reserved = 0
place_of (At place) = place

abbrev pub is_free : LabelState → Bool
is_free Free = true
is_free Reserved = false
is_free (At place) = false

abbrev pub is_reserved : LabelState → Bool
is_reserved Free = false
is_reserved Reserved = true
is_reserved (At place) = false

abbrev pub is_placed : LabelState → Bool
is_placed Free = false
is_placed Reserved = false
is_placed (At place) = true

-- whether a label stands at a place
abbrev pub is_at : ℕ → LabelState → Bool
is_at n Free = false
is_at n Reserved = false
is_at n (At place) = place == n

-- whether any label does
abbrev pub any_at : ℕ → List LabelState → Bool
any_at n [] = false
any_at n (s ∷ labels) = is_at n s || any_at n labels

-- no label stands past the place n
abbrev pub AllWithin : List LabelState → ℕ → Type 0
AllWithin labels n = (l : ℕ) → place_of (state_of labels l) ≤ n
