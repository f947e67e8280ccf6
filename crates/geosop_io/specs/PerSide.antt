-- The two sides of a pair, and a value for each of them.
use Rattle.im_matrix.specs.declared.Which.{Which}
use Rattle.im_matrix.specs.declared.Which.TheVariants.{A, B}
use Rattle.geosop_io.specs.declared.per_side.PerSide.{PerSide}

-- The side that isn't this one.
abbrev pub other : Which → Which
other A = B
other B = A

-- The value of a side.
abbrev pub on_side : {X : Type 0} → PerSide X → Which → X
on_side both A = both.a
on_side both B = both.b

-- Both values, with another one for a side.
abbrev pub with_side : {X : Type 0} → PerSide X → Which → X → PerSide X
with_side both A value = record both { a = value }
with_side both B value = record both { b = value }
