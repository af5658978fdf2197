-- Operands that a layout places are below 2 ^ 26.
use Rattle.std.proofs.Common.{◌≡◌, ℕ, ◌^◌, ◌<◌, ◌≤◌, true, IfSome, Some, None, refl, subst, arith, pow_mono, nat_le}
use Rattle.std.proofs.lemmas.Bool.{cond_both, leb-true}
use Rattle.table.specs.Diagram.{bits, rest, place, fits, operands}
use Rattle.encoder.specs.declared.operands.Operands.{Operands}
use Rattle.encoder.specs.declared.layout.Layout.{Layout}
use Rattle.encoder.specs.declared.layout.Layout.TheVariants.{LowZxy, LowZxV3, LowZxV5, LowZV8, LowZzV8, LowZR14V8, LowZR14V3V5, R14R14V2V5, LowXV5, LowZzV5, ZzY, ZX, YX, XAlone, LongZxy, LongZxV5, LongXV5, LongZxV12, LongZV16, LongXV16}
use Rattle.encoder.specs.Layouts.{diagram_of, placed}
use Rattle.encoder.proofs.Halfwords.{place_below}

low_bits : (l : Layout) → nat_le (bits (rest (diagram_of l))) 26 ≡ true
low_bits LowZxy = refl
low_bits LowZxV3 = refl
low_bits LowZxV5 = refl
low_bits LowZV8 = refl
low_bits LowZzV8 = refl
low_bits LowZR14V8 = refl
low_bits LowZR14V3V5 = refl
low_bits R14R14V2V5 = refl
low_bits LowXV5 = refl
low_bits LowZzV5 = refl
low_bits ZzY = refl
low_bits ZX = refl
low_bits YX = refl
low_bits XAlone = refl
low_bits LongZxy = refl
low_bits LongZxV5 = refl
low_bits LongXV5 = refl
low_bits LongZxV12 = refl
low_bits LongZV16 = refl
low_bits LongXV16 = refl

place_low : (l : Layout) (o : Operands) → place (rest (diagram_of l)) (operands o.z o.x o.y o.n) < 67108864
place_low l o =
    let m : 2 ^ bits (rest (diagram_of l)) ≤ 67108864 = pow_mono (leb-true _ _ (low_bits l)) in
    omega (arith, m, place_below (rest (diagram_of l)) (operands o.z o.x o.y o.n))

pub placed_low : (l : Layout) (o : Operands) (h : ℕ) → placed (diagram_of l) o ≡ Some h → h < 67108864
placed_low l o h e =
    subst (λ r. IfSome r (λ n. n < 67108864)) e
    (cond_both (fits (diagram_of l) o.z o.x o.y o.n) (Some (place (rest (diagram_of l)) (operands o.z o.x o.y o.n))) None (λ r. IfSome r (λ n. n < 67108864)) (λ _. place_low l o) (λ _. _))
