-- The text of an operation.
use Rattle.std.specs.Prelude.{ℕ, List, ◌++◌, codes, decimal}
use Rattle.isa.specs.declared.operation.Operation.{Operation}
use Rattle.isa.specs.declared.operation.Operation.TheVariants.{Register, Immediate, Test, Compare, Access, Move, Constant, Jump, Bkpt}
use Rattle.text.specs.Names.{register_name, immediate_name, test_name, compare_name, access_name, constant_name, jump_name}

-- a name, then the operands parted by commas; an address is in parentheses
abbrev pub text : Operation → List ℕ
text (Register op z x y) = register_name op ++ (codes " r" ++ (decimal z ++ (codes ", r" ++ (decimal x ++ (codes ", r" ++ decimal y)))))
text (Immediate op z x n) = immediate_name op ++ (codes " r" ++ (decimal z ++ (codes ", r" ++ (decimal x ++ (codes ", " ++ decimal n)))))
text (Test op x n) = test_name op ++ (codes " r" ++ (decimal x ++ (codes ", " ++ decimal n)))
text (Compare op x y) = compare_name op ++ (codes " r" ++ (decimal x ++ (codes ", r" ++ decimal y)))
text (Access op z x n) = access_name op ++ (codes " r" ++ (decimal z ++ (codes ", (r" ++ (decimal x ++ (codes ", " ++ (decimal n ++ codes ")"))))))
text (Move z x) = codes "mov r" ++ (decimal z ++ (codes ", r" ++ decimal x))
text (Constant op z n) = constant_name op ++ (codes " r" ++ (decimal z ++ (codes ", " ++ decimal n)))
text (Jump op x) = jump_name op ++ (codes " r" ++ decimal x)
text Bkpt = codes "bkpt"
