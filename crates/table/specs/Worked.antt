-- Worked examples, by the public GNU opcode table and by hand.
use Rattle.std.specs.Prelude.{◌≡◌, negsuc, Some, None}
use Rattle.isa.specs.declared.operation.RegisterOp.TheVariants.{Addu}
use Rattle.isa.specs.declared.operation.ImmediateOp.TheVariants.{Addi}
use Rattle.isa.specs.declared.operation.CompareOp.TheVariants.{Cmphs}
use Rattle.isa.specs.declared.operation.AccessOp.TheVariants.{StW}
use Rattle.isa.specs.declared.operation.Branch.TheVariants.{Bt}
use Rattle.isa.specs.declared.operation.Operation.TheVariants.{Register, Immediate, Compare, Access, Move}
use Rattle.isa.specs.declared.form.Form.TheVariants.{Short, Long}
use Rattle.isa.specs.Normal.{bgeni}
use Rattle.table.specs.Encode.{used, used_branch}

pub record WorkedExamples : Type 0 where
  pub addu_r9_r10_r11 : used (Register Addu 9 10 11) ≡ Some (Long 0xC56A0029)
  pub addi_r7_r7_256 : used (Immediate Addi 7 7 256) ≡ Some (Short 0x27FF)
  pub addi_r7_r7_257 : used (Immediate Addi 7 7 257) ≡ Some (Long 0xE4E70100)
  pub bgeni_r1_3 : used (bgeni 1 3) ≡ Some (Short 0x3108)
  pub mov_r16_r3 : used (Move 16 3) ≡ Some (Long 0xC4034830)
  pub cmphs_r16_r3 : used (Compare Cmphs 16 3) ≡ None
  pub st_w_r0_r14_1020 : used (Access StW 0 14 1020) ≡ Some (Short 0xBF1F)
  pub st_w_r0_r14_1024 : used (Access StW 0 14 1024) ≡ Some (Long 0xDC0E2100)
  pub bt_back_1024_bytes : used_branch Bt (negsuc 511) ≡ Some (Short 0x0A00)
  pub bt_back_1026_bytes : used_branch Bt (negsuc 512) ≡ Some (Long 0xE860FDFF)
