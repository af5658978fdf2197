-- What the first bytes of a code spell.
use Rattle.std.specs.Prelude.{◌≡◌, ℕ, ◌+◌, ◌*◌, cond, List, [], ◌∷◌, ◌++◌, Some, None, Ok, Err, Option, Result, nat_lt}
use Rattle.refusal.specs.declared.refusal.Refusal.{Refusal}
use Rattle.refusal.specs.declared.refusal.Refusal.TheVariants.{NoInstruction, UnknownInstruction}
use Rattle.isa.specs.declared.operation.Instruction.{Instruction}
use Rattle.isa.specs.declared.form.Form.{Form}
use Rattle.isa.specs.declared.form.Form.TheVariants.{Short, Long}
use Rattle.isa.specs.Bytes.{half, image, size}
use Rattle.table.specs.Diagram.{short, long}
use Rattle.table.specs.Decode.{decode}
use Rattle.table.specs.Laws.{Spelled}

-- what a form decodes to, by its size
abbrev pub decoded_form : Form → Option Instruction
decoded_form (Short h) = decode short h
decoded_form (Long w) = decode long w

-- an instruction, how many bytes it takes, and the bytes after it
pub record Front : Type 0 where
  pub instruction : Instruction
  pub length : ℕ
  pub rest : List ℕ

-- a decoder has no PC, so its refusals have the place 0
abbrev pub too_few : Result Front Refusal
too_few = Err (NoInstruction 0)

-- an instruction that was found, or a word in no row
abbrev pub known : Option Instruction → ℕ → List ℕ → Result Front Refusal
known None n bytes = Err (UnknownInstruction 0)
known (Some i) n bytes = Ok (record { instruction = i; length = n; rest = bytes })

-- a word by its high halfword and the bytes after that
abbrev pub decoded_long : ℕ → List ℕ → Result Front Refusal
decoded_long high [] = too_few
decoded_long high (a ∷ []) = too_few
decoded_long high (a ∷ b ∷ bytes) = known (decode long (high * 65536 + half a b)) 4 bytes

-- the first two bytes, and two more where the top two bits of their halfword are 11
unfoldable pub decoded : List ℕ → Result Front Refusal
decoded [] = too_few
decoded (a ∷ []) = too_few
decoded (a ∷ b ∷ bytes) = cond (nat_lt (half a b) 0xC000) (known (decode short (half a b)) 2 bytes) (decoded_long (half a b) bytes)

-- every form of an instruction decodes to it, whatever follows, which is left as the rest
abbrev pub ReadsBack : Type 0
ReadsBack = (f : Form) (i : Instruction) (bytes : List ℕ) → Spelled f i → decoded (image f ++ bytes) ≡ Ok (record { instruction = i; length = size f; rest = bytes })
