-- No call changes what may be done at an address.
use Rattle.std.proofs.Common.{◌≡◌, ℕ, List, [], ◌∷◌, refl, ◌∙◌, arith}
use Rattle.std.proofs.lemmas.Bool.Decides.{nat_tests}
use Rattle.memory.specs.Calls.{after_call, after_calls, permission}
use Rattle.memory.specs.Memory.{Meaning, overwritten}
use Rattle.memory.specs.declared.calls.Call.{Call}
use Rattle.memory.specs.declared.calls.Call.TheVariants.{Ask, Read, Write}
use Rattle.memory.specs.declared.cell.Cell.{Cell}
use Rattle.memory.specs.declared.cell.Cell.TheVariants.{Absent, ReadOnly, Writable}

overwritten_permission : (cell : Cell) (byte : ℕ) → permission (overwritten cell byte) ≡ permission cell
overwritten_permission (Absent part) byte = refl
overwritten_permission (ReadOnly held part) byte = refl
overwritten_permission (Writable held) byte = refl

call_permission : (m : Meaning) (call : Call) (address : ℕ) → permission (after_call m call address) ≡ permission (m address)
call_permission m (Ask at) address = refl
call_permission m (Read at) address = refl
call_permission m (Write at byte) address = grind (arith, nat_tests, overwritten_permission)

pub calls_permission : (calls : List Call) (m : Meaning) (address : ℕ) → permission (after_calls m calls address) ≡ permission (m address)
calls_permission [] m address = refl
calls_permission (call ∷ calls) m address = calls_permission calls (after_call m call) address ∙ call_permission m call address
