-- Bit diagrams: where an instruction's operands stand in its halfword or word; placed, taken out and matched.
use Rattle.std.specs.Prelude.{ℕ, zero, suc, ◌+◌, ◌*◌, ◌/◌, ◌%◌, ◌^◌, Bool, true, cond, ◌&&◌, List, [], ◌∷◌, ◌==◌, nat_le, nat_lt}

-- what a field holds: a register, or the number v that stands for the constant
pub data Operand : Type 0 where
  reg_z : Operand
  reg_x : Operand
  reg_y : Operand
  number : Operand

-- a part of a diagram, by its width in bits: bits of the table's word, bits that are 0, or a field
pub data Part : Type 0 where
  fixed : ℕ → Part
  unused : ℕ → Part
  field : Operand → ℕ → Part

-- the fields by name
abbrev pub z : ℕ → Part
z k = field reg_z k

abbrev pub x : ℕ → Part
x k = field reg_x k

abbrev pub y : ℕ → Part
y k = field reg_y k

abbrev pub v : ℕ → Part
v k = field number k

-- what holds of registers that have no field: nothing, x = z, x = r14, or z = x = r14
pub data Pins : Type 0 where
  free : Pins
  x_is_z : Pins
  x_is_r14 : Pins
  both_are_r14 : Pins

-- A diagram's parts go from the highest bit to the lowest. An operand in two fields has its higher bits in the first; one without a field is 0.
pub record Layout : Type 0 where
  pub pins : Pins
  pub parts : List Part

-- a layout by its parts
abbrev pub layout : Pins → List Part → Layout
layout p ps = record { pins = p; parts = ps }

-- an instruction is short, a halfword, or long, a word
pub data Size : Type 0 where
  short : Size
  long : Size

-- the k bits of n from bit p on
abbrev pub slice : ℕ → ℕ → ℕ → ℕ
slice n zero k = n % 2 ^ k
slice n (suc p) k = n / 2 ^ suc p % 2 ^ k

-- how many bits some parts have
abbrev pub bits : List Part → ℕ
bits [] = 0
bits (fixed k ∷ ps) = k + bits ps
bits (unused k ∷ ps) = k + bits ps
bits (field o k ∷ ps) = k + bits ps

-- a layout of a halfword, or of a word
abbrev pub has_size : Size → Layout → Bool
has_size short l = nat_le (bits l.parts) 16
has_size long l = nat_lt 16 (bits l.parts)

-- operands, told apart by number
abbrev pub index : Operand → ℕ
index reg_z = 0
index reg_x = 1
index reg_y = 2
index number = 3

-- the same operand
abbrev pub is : Operand → Operand → Bool
is o p = index o == index p

-- how many bits of an operand have a field
abbrev pub width : Operand → List Part → ℕ
width o [] = 0
width o (fixed k ∷ ps) = width o ps
width o (unused k ∷ ps) = width o ps
width o (field p k ∷ ps) = cond (is p o) (k + width o ps) (width o ps)

-- the operands by name
abbrev pub operands : ℕ → ℕ → ℕ → ℕ → Operand → ℕ
operands rz rx ry n reg_z = rz
operands rz rx ry n reg_x = rx
operands rz rx ry n reg_y = ry
operands rz rx ry n number = n

-- the operands in their fields
abbrev pub place : List Part → (Operand → ℕ) → ℕ
place [] g = 0
place (fixed k ∷ ps) g = place ps g
place (unused k ∷ ps) g = place ps g
place (field o k ∷ ps) g = slice (g o) (width o ps) k * 2 ^ bits ps + place ps g

-- the two fields of an operand, put together
abbrev pub join : ℕ → ℕ → ℕ → ℕ
join high zero low = high
join high (suc k) low = high * 2 ^ suc k + low

-- an operand taken out of the form h
abbrev pub taken : Operand → List Part → ℕ → ℕ
taken o [] h = 0
taken o (fixed k ∷ ps) h = taken o ps h
taken o (unused k ∷ ps) h = taken o ps h
taken o (field p k ∷ ps) h = cond (is p o) (join (slice h (bits ps) k) (width o ps) (taken o ps h)) (taken o ps h)

-- the fixed bits of h are those of the word w, and the unused ones are 0
abbrev pub agrees : List Part → ℕ → ℕ → Bool
agrees [] h w = true
agrees (fixed k ∷ ps) h w = slice h (bits ps) k == slice w (bits ps) k && agrees ps h w
agrees (unused k ∷ ps) h w = slice h (bits ps) k == 0 && agrees ps h w
agrees (field o k ∷ ps) h w = agrees ps h w

-- the parts below the highest fixed bits, which tell in which range a form lies
abbrev pub below : List Part → List Part
below [] = []
below (fixed k ∷ ps) = ps
below (unused k ∷ ps) = unused k ∷ ps
below (field o k ∷ ps) = field o k ∷ ps

-- the parts that tell forms of one range apart
abbrev pub rest : Layout → List Part
rest l = below l.parts

-- how many values there are from the first form of a word to past its last
abbrev pub span : Layout → ℕ
span l = 2 ^ bits (rest l)

-- the registers are below the limits that their fields set, and are as pinned
abbrev pub registers_fit : Pins → ℕ → ℕ → ℕ → ℕ → Bool
registers_fit free zs xs rz rx = nat_lt rz zs && nat_lt rx xs
registers_fit x_is_z zs xs rz rx = nat_lt rz zs && rx == rz
registers_fit x_is_r14 zs xs rz rx = nat_lt rz zs && rx == 14
registers_fit both_are_r14 zs xs rz rx = rz == 14 && rx == 14

-- the operands fit a layout
abbrev pub fits : Layout → ℕ → ℕ → ℕ → ℕ → Bool
fits l rz rx ry n = registers_fit l.pins (2 ^ width reg_z (rest l)) (2 ^ width reg_x (rest l)) rz rx && (nat_lt ry (2 ^ width reg_y (rest l)) && nat_lt n (2 ^ width number (rest l)))

-- the registers of the form h
abbrev pub z_of : Pins → List Part → ℕ → ℕ
z_of free ps h = taken reg_z ps h
z_of x_is_z ps h = taken reg_z ps h
z_of x_is_r14 ps h = taken reg_z ps h
z_of both_are_r14 ps h = 14

-- likewise x
abbrev pub x_of : Pins → List Part → ℕ → ℕ
x_of free ps h = taken reg_x ps h
x_of x_is_z ps h = taken reg_z ps h
x_of x_is_r14 ps h = 14
x_of both_are_r14 ps h = 14
