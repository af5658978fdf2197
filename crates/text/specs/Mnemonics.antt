-- The mnemonic of an operation.
use Rattle.isa.specs.declared.operation.Operation.{Operation}
use Rattle.isa.specs.declared.operation.Operation.TheVariants as operation
use Rattle.text.specs.declared.mnemonic.Mnemonic.{Mnemonic}
use Rattle.text.specs.declared.mnemonic.Mnemonic.TheVariants.{Register, Immediate, Test, Compare, Access, Move, Constant, Jump, Bkpt}

abbrev pub mnemonic : Operation → Mnemonic
mnemonic (operation.Register op z x y) = Register op
mnemonic (operation.Immediate op z x n) = Immediate op
mnemonic (operation.Test op x n) = Test op
mnemonic (operation.Compare op x y) = Compare op
mnemonic (operation.Access op z x n) = Access op
mnemonic (operation.Move z x) = Move
mnemonic (operation.Constant op z n) = Constant op
mnemonic (operation.Jump op x) = Jump op
mnemonic operation.Bkpt = Bkpt
