use Rattle.std.proofs.Common.{refl, arith}
use Rattle.table.specs.Diagram.{short}
use Rattle.table.proofs.Decoding.{by_range}
use Rattle.decoder.proofs.halfword.decode_halfword.Goals as goal

pub returns-in-0-to-12287 : goal.returns-in-0-to-12287
returns-in-0-to-12287 c = rw (← c.from-h.ensures) (by_range short 0x0 0x3000 c.from-h.result _ (omega arith) (omega arith) c.branches_and_addi.ensures)

pub returns-in-12288-to-16383 : goal.returns-in-12288-to-16383
returns-in-12288-to-16383 c = rw (← c.from-h.ensures) (by_range short 0x3000 0x4000 c.from-h.result _ (omega arith) (omega arith) c.constants_and_bits.ensures)

pub returns-in-16384-to-24575 : goal.returns-in-16384-to-24575
returns-in-16384-to-24575 c = rw (← c.from-h.ensures) (by_range short 0x4000 0x6000 c.from-h.result _ (omega arith) (omega arith) c.shifts_and_sums.ensures)

pub returns-in-24576-to-28671 : goal.returns-in-24576-to-28671
returns-in-24576-to-28671 c = rw (← c.from-h.ensures) (by_range short 0x6000 0x7000 c.from-h.result _ (omega arith) (omega arith) c.two_registers.ensures)

pub returns-in-28672-to-32767 : goal.returns-in-28672-to-32767
returns-in-28672-to-32767 c = rw (← c.from-h.ensures) (by_range short 0x7000 0x8000 c.from-h.result _ (omega arith) (omega arith) c.shifts_and_jumps.ensures)

pub returns-in-32768-to-49151 : goal.returns-in-32768-to-49151
returns-in-32768-to-49151 c = rw (← c.from-h.ensures) (by_range short 0x8000 0xc000 c.from-h.result _ (omega arith) (omega arith) c.loads_and_stores.ensures)

pub returns-in_default : goal.returns-in_default
returns-in_default c = rw (← c.from-h.ensures) (by_range short 0xc000 0x10000 c.from-h.result _ (omega arith) (omega arith) refl)
