-- One value for each part of the plane.
use Rattle.im_matrix.specs.declared.Loc.{Loc}
use Rattle.im_matrix.specs.declared.Loc.TheVariants.{Interior, Boundary, Exterior}
use Rattle.im_matrix.specs.declared.parts.Parts.{Parts}

-- the value for a part
abbrev pub at_part : {T : Type 0} → Parts T → Loc → T
at_part values Interior = values.interior
at_part values Boundary = values.boundary
at_part values Exterior = values.exterior
