use Rattle.std.proofs.Common.{refl, arith}
use Rattle.table.specs.Diagram.{long}
use Rattle.table.proofs.Decoding.{by_range}
use Rattle.decoder.proofs.word.decode_word.Goals as goal

pub returns-in-3221225472-to-3489660927 : goal.returns-in-3221225472-to-3489660927
returns-in-3221225472-to-3489660927 c = by_range long 0xc0000000 0xd0000000 c.args.word _ (omega arith) (omega arith) c.registers_and_shifts.ensures

pub returns-in-3489660928-to-3892314111 : goal.returns-in-3489660928-to-3892314111
returns-in-3489660928-to-3892314111 c = by_range long 0xd0000000 0xe8000000 c.args.word _ (omega arith) (omega arith) c.offsets_and_calls.ensures

pub returns-in-3892314112-to-4294967295 : goal.returns-in-3892314112-to-4294967295
returns-in-3892314112-to-4294967295 c = by_range long 0xe8000000 0x100000000 c.args.word _ (omega arith) (omega arith) c.sixteen_bits.ensures

pub returns-in_default : goal.returns-in_default
returns-in_default c = by_range long 0x0 0xc0000000 c.args.word _ (omega arith) (omega arith) refl
