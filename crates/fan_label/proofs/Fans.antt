-- What is seen at a node makes a fan of each figure's sections.
use Rattle.std.proofs.Common.{List}
use Rattle.im_matrix.specs.declared.Which.TheVariants.{A, B}
use Rattle.plane_laws.specs.Plane.{Point}
use Rattle.plane_exact.specs.declared.dir.Dir.{Dir}
use Rattle.point_set.specs.declared.dim_loc.DimLoc.{DimLoc}
use Rattle.point_set.specs.declared.figure.Figure.{Figure}
use Rattle.point_set.specs.declared.rule.Rule.{Rule}
use Rattle.fan_order.specs.declared.section.Section.{Section}
use Rattle.fan_order.specs.Rays.{AreRaysOf}
use Rattle.fan_order.specs.Sections.{AreHandsAlike, AreSided, IsFanOf}
use Rattle.fan_label.specs.Seen.{AreSeenAt}
use Rattle.fan_laws.proofs.Fans.Hands.{hands_alike, sided as each_sided}

-- the two fans of a node: the hands of each figure's sections are alike along each way, and an area's sections have it on one side
pub record AreFans (a b : Figure) (v : Point) (sections : List Section) (rays : List Dir) : Type 0 where
  pub fan_a : IsFanOf A a v sections rays
  pub fan_b : IsFanOf B b v sections rays
  pub hands_a : AreHandsAlike A sections
  pub hands_b : AreHandsAlike B sections
  pub sided_a : AreSided A sections
  pub sided_b : AreSided B sections

pub fans_of_node :
    (a b : Figure) (rule : Rule) (v : Point) (at_a at_b : DimLoc) (sections : List Section) (rays : List Dir)
    → AreSeenAt a b rule v at_a at_b sections → AreRaysOf sections rays → AreFans a b v sections rays
fans_of_node a b rule v at_a at_b sections rays seen are_rays =
    let of_a : IsFanOf A a v sections rays
    = record { shaped = seen.valid.a_shaped; valid = seen.valid.a_valid; are_sections = seen.sections_a; are_rays = are_rays } in
    let of_b : IsFanOf B b v sections rays
    = record { shaped = seen.valid.b_shaped; valid = seen.valid.b_valid; are_sections = seen.sections_b; are_rays = are_rays } in
    record {
      fan_a = of_a;
      fan_b = of_b;
      hands_a = hands_alike A a v sections rays of_a;
      hands_b = hands_alike B b v sections rays of_b;
      sided_a = each_sided A a v sections rays of_a;
      sided_b = each_sided B b v sections rays of_b;
    }
