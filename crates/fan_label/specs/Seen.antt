-- What a fan has to hold for its labels to be germs.
use Rattle.std.specs.Prelude.{List}
use Rattle.im_matrix.specs.declared.Which.TheVariants.{A, B}
use Rattle.plane_laws.specs.Plane.{Point}
use Rattle.point_set.specs.declared.dim_loc.DimLoc.{DimLoc}
use Rattle.point_set.specs.declared.figure.Figure.{Figure}
use Rattle.point_set.specs.declared.rule.Rule.{Rule}
use Rattle.point_set.specs.Location.{IsKind}
use Rattle.point_set.specs.Visible.{AreValid}
use Rattle.fan_order.specs.declared.section.Section.{Section}
use Rattle.fan_order.specs.Sections.{AreSectionsAt}

-- All sections of two valid figures at v, and the kinds of v in them.
pub record AreSeenAt (a b : Figure) (rule : Rule) (v : Point) (at_a at_b : DimLoc) (sections : List Section) : Type 0 where
  pub valid : AreValid a b
  pub sections_a : AreSectionsAt A a v sections
  pub sections_b : AreSectionsAt B b v sections
  pub kind_a : IsKind a rule v at_a
  pub kind_b : IsKind b rule v at_b
