use Rattle.std.proofs.Common.{sym, subst, ◌∙◌, arith}
use Rattle.std.proofs.lemmas.Int.{ints}
use Rattle.whole_algebra.proofs.Laws.{*ℤ_one}
use Rattle.plane_laws.specs.Plane.{Point}
use Rattle.plane_exact.specs.Places.{point_of}
use Rattle.whole_algebra.proofs.Computed.{narrow}
use Rattle.y_index.specs.Levels.{IsLevel}
use Rattle.y_index.proofs.Levels.{IsLevel-whole}
use Rattle.y_index.proofs.level.level_of.Goals as goal

pub returns-in-Some : goal.returns-in-Some
returns-in-Some c =
    let limit = c.in-Some.ensures.limit in
    let P : Point → Type 0 = λ q. IsLevel q (narrow c.in-Some.p.y) (narrow c.in-Some.p.y) in
    record {
      level =
          subst P (sym c.in-Some.ensures.point)
          (IsLevel-whole (point_of c.in-Some.p) (narrow c.in-Some.p.y) (*ℤ_one (narrow c.in-Some.p.y) ∙ omega (arith, ints, limit)));
    }
