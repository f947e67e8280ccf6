use Rattle.plane_laws.proofs.laws.law_triangles_are_of_points.Goals as goal
use Rattle.plane_laws.proofs.Segments.Mixes.{triangle_same, strict_triangle_same}

pub returns : goal.returns
returns c = record {
  within = λ a a' b b' c c' p p'. triangle_same;
  strictly = λ a a' b b' c c' p p'. strict_triangle_same;
}
