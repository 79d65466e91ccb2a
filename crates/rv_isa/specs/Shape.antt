-- How each operation accesses memory, if it does, and with which size.
use Rattle.rv_isa.specs.declared.shape.Shape.{Shape}
use Rattle.rv_isa.specs.declared.shape.Shape.TheVariants as shape
use Rattle.rv_isa.specs.declared.op.Op.{Op}
use Rattle.rv_isa.specs.declared.op.Op.TheVariants.{Lb, Lh, Lw, Lbu, Lhu, Sb, Sh, Sw, LrW, ScW, AmoswapW, AmoaddW, AmoxorW, AmoandW, AmoorW, AmominW, AmomaxW, AmominuW, AmomaxuW}

-- how an operation accesses memory, if it does, with the access's size in bytes
abbrev pub shape_of : Op → Shape
shape_of Lb = shape.PlainLoad 1
shape_of Lh = shape.PlainLoad 2
shape_of Lw = shape.PlainLoad 4
shape_of Lbu = shape.PlainLoad 1
shape_of Lhu = shape.PlainLoad 2
shape_of Sb = shape.PlainStore 1
shape_of Sh = shape.PlainStore 2
shape_of Sw = shape.PlainStore 4
shape_of LrW = shape.Lr
shape_of ScW = shape.Sc
shape_of AmoswapW = shape.Amo
shape_of AmoaddW = shape.Amo
shape_of AmoxorW = shape.Amo
shape_of AmoandW = shape.Amo
shape_of AmoorW = shape.Amo
shape_of AmominW = shape.Amo
shape_of AmomaxW = shape.Amo
shape_of AmominuW = shape.Amo
shape_of AmomaxuW = shape.Amo
shape_of _ = shape.Other
