-- Worked examples of values.
use Rattle.std.specs.Prelude.{◌≡◌, true, false}
use Rattle.isa.specs.declared.operation.RegisterOp.TheVariants.{Asr, Rotl, Addc}
use Rattle.isa.specs.declared.operation.CompareOp.TheVariants.{Cmplt}
use Rattle.alu.specs.Values.{register_result, register_carry, compare_result, even, extended_halfword}

pub record WorkedValues : Type 0 where
  pub asr_far : register_result Asr 0x80000000 40 false ≡ 0xFFFFFFFF
  pub rotl_far : register_result Rotl 0x80000001 40 false ≡ 0
  pub rotl_near : register_result Rotl 0x80000001 4 false ≡ 0x18
  pub addc_carries : register_carry Addc 0xFFFFFFFF 0 true ≡ true
  pub below : compare_result Cmplt 0xFFFFFFFF 0 ≡ true
  pub target : even 0x2001 ≡ 0x2000
  pub sign : extended_halfword 0x8000 ≡ 0xFFFF8000
