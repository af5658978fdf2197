-- The table's diagram of each layout.
use Rattle.std.specs.Prelude.{ℕ, cond, Some, None, Option}
use Rattle.encoder.specs.declared.operands.Operands.{Operands}
use Rattle.encoder.specs.declared.layout.Layout.{Layout}
use Rattle.encoder.specs.declared.layout.Layout.TheVariants.{LowZxy, LowZxV3, LowZxV5, LowZV8, LowZzV8, LowZR14V8, LowZR14V3V5, R14R14V2V5, LowXV5, LowZzV5, ZzY, ZX, YX, XAlone, LongZxy, LongZxV5, LongXV5, LongZxV12, LongZV16, LongXV16}
use Rattle.table.specs.Diagram as diagram
use Rattle.table.specs.Diagram.{rest, place, fits, operands}
use Rattle.table.specs.Table.{low_zxy, low_zx_v3, low_zx_v5, low_z_v8, low_zz_v8, low_z_r14_v8, low_z_r14_v3_v5, r14_r14_v2_v5, low_x_v5, low_zz_v5, zz_y, z_x, y_x, x_alone, long_zxy, long_zx_v5, long_x_v5, long_zx_v12, long_z_v16, long_x_v16}

abbrev pub diagram_of : Layout → diagram.Layout
diagram_of LowZxy = low_zxy
diagram_of LowZxV3 = low_zx_v3
diagram_of LowZxV5 = low_zx_v5
diagram_of LowZV8 = low_z_v8
diagram_of LowZzV8 = low_zz_v8
diagram_of LowZR14V8 = low_z_r14_v8
diagram_of LowZR14V3V5 = low_z_r14_v3_v5
diagram_of R14R14V2V5 = r14_r14_v2_v5
diagram_of LowXV5 = low_x_v5
diagram_of LowZzV5 = low_zz_v5
diagram_of ZzY = zz_y
diagram_of ZX = z_x
diagram_of YX = y_x
diagram_of XAlone = x_alone
diagram_of LongZxy = long_zxy
diagram_of LongZxV5 = long_zx_v5
diagram_of LongXV5 = long_x_v5
diagram_of LongZxV12 = long_zx_v12
diagram_of LongZV16 = long_z_v16
diagram_of LongXV16 = long_x_v16

-- the operands in the fields of a diagram, if they fit it
abbrev pub placed : diagram.Layout → Operands → Option ℕ
placed l o = cond (fits l o.z o.x o.y o.n) (Some (place (rest l) (operands o.z o.x o.y o.n))) None
