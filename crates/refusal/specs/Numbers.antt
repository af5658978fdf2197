-- The number and the place of each cause. Every promise about a refusal goes through these.
use Rattle.std.specs.Prelude.{ℕ}
use Rattle.refusal.specs.declared.refusal.Refusal.{Refusal}
use Rattle.refusal.specs.declared.refusal.Refusal.TheVariants.{LineTooLong, BadByte, UnknownMnemonic, BadOperand, LabelTooHigh, NoForm, TableFull, LabelTaken, NotOwed, NothingToTakeBack, InvalidArgument, LabelNotPlaced, TooFar, NoRoom, NoInstruction, UnknownInstruction, Breakpoint, Misaligned}
use Rattle.refusal.specs.declared.refusal.Refusal.TheVariants as refusal
use Rattle.refusal.specs.declared.fault.Fault.{Fault}
use Rattle.refusal.specs.declared.fault.Fault.TheVariants as fault
use Rattle.refusal.specs.declared.place.Place.{Place}

-- the number of each cause
abbrev pub number : Refusal → ℕ
number LineTooLong = 1
number (BadByte column) = 2
number (UnknownMnemonic column) = 3
number (BadOperand column) = 4
number (LabelTooHigh column) = 5
number (NoForm column) = 6
number TableFull = 7
number LabelTaken = 8
number NotOwed = 9
number NothingToTakeBack = 10
number InvalidArgument = 11
number (LabelNotPlaced item) = 12
number TooFar = 13
number NoRoom = 14
number (NoInstruction pc) = 15
number (UnknownInstruction pc) = 16
number (Breakpoint pc) = 17
number (Misaligned pc address) = 18
number (refusal.Absent pc address part) = 19
number (refusal.ReadOnly pc address part) = 20

-- line, column, item, pc, address, part
abbrev at : ℕ → ℕ → ℕ → ℕ → ℕ → ℕ → Place
at l c i p a t = record { line = l; column = c; item = i; pc = p; address = a; part = t }

-- the place of a refusal that line l led to; what a cause lacks is 0, and so is the line from 11 on
abbrev pub place_in : ℕ → Refusal → Place
place_in l LineTooLong = at l 81 0 0 0 0
place_in l (BadByte column) = at l column 0 0 0 0
place_in l (UnknownMnemonic column) = at l column 0 0 0 0
place_in l (BadOperand column) = at l column 0 0 0 0
place_in l (LabelTooHigh column) = at l column 0 0 0 0
place_in l (NoForm column) = at l column 0 0 0 0
place_in l TableFull = at l 0 0 0 0 0
place_in l LabelTaken = at l 0 0 0 0 0
place_in l NotOwed = at l 0 0 0 0 0
place_in l NothingToTakeBack = at l 0 0 0 0 0
place_in l InvalidArgument = at 0 0 0 0 0 0
place_in l (LabelNotPlaced item) = at 0 0 item 0 0 0
place_in l TooFar = at 0 0 0 0 0 0
place_in l NoRoom = at 0 0 0 0 0 0
place_in l (NoInstruction pc) = at 0 0 0 pc 0 0
place_in l (UnknownInstruction pc) = at 0 0 0 pc 0 0
place_in l (Breakpoint pc) = at 0 0 0 pc 0 0
place_in l (Misaligned pc address) = at 0 0 0 pc address 0
place_in l (refusal.Absent pc address part) = at 0 0 0 pc address part
place_in l (refusal.ReadOnly pc address part) = at 0 0 0 pc address part

-- a memory's refusal of the byte at an address, met by a step at pc
abbrev pub refused_at : Fault → ℕ → ℕ → Refusal
refused_at (fault.Absent part) pc address = refusal.Absent pc address part
refused_at (fault.ReadOnly part) pc address = refusal.ReadOnly pc address part

-- a fault has the number of the refusal that it leads to
abbrev pub fault_number : Fault → ℕ
fault_number f = number (refused_at f 0 0)
