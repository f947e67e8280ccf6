-- Interior to the union of areas exactly where every sector is covered.
use Rattle.std.proofs.Common.{◌≡◌, ◌⊎◌, inl, inr, ℕ, suc, ◌+◌, Bool, true, false, ◌||◌, List, [], ◌∷◌, ap, refl, sym, ◌∙◌, arith}
use Rattle.std.specs.List.{All}
use Rattle.std.proofs.lemmas.Bool.{true≢false}
use Rattle.std.proofs.lemmas.List.Elements.{All-head, All-tail}
use Rattle.im_matrix.specs.declared.Loc.{Loc}
use Rattle.plane_laws.specs.Plane.{Point}
use Rattle.plane_laws.specs.Directions.{Direction}
use Rattle.point_set.specs.declared.figure.Area.{Area}
use Rattle.plane_laws.specs.Along.{HoldsAlong}
use Rattle.point_set.specs.Germ.{IsGerm}
use Rattle.point_set.specs.Location.{is_not_exterior, is_covered_by}
use Rattle.point_set.specs.Shape.{IsAreaShaped}
use Rattle.point_set.specs.Validity.{IsAtPlace}
use Rattle.plane_laws.proofs.Near.Away.{away_point, away_point_is}
use Rattle.ring_laws.proofs.Germs.Areas.{germ_exists}

-- ---- where the union covers along a direction, one of the areas does
pub record HasCover (areas : List Area) (v : Point) (d : Direction) : Type 0 where
  pub place : ℕ
  pub area : Area
  pub is : IsAtPlace areas place area
  pub germ : Loc
  pub germ_is : IsGerm area v d germ
  pub covers : is_not_exterior germ ≡ true

pub cover_or_none : (areas : List Area) → All IsAreaShaped areas → (v : Point) (d : Direction) → HasCover areas v d
    ⊎ HoldsAlong (λ q. is_covered_by q areas ≡ false) v d
cover_or_none [] shaped v d = inr (record { from = 0; holds = λ n far q away. refl })
cover_or_none (area ∷ areas) shaped v d =
    let g = germ_exists area (All-head IsAreaShaped area areas shaped) v d in
    by_germ g.germ g.is (is_not_exterior g.germ) refl (cover_or_none areas (All-tail IsAreaShaped area areas shaped) v d)
  where
    later : HasCover areas v d → HasCover (area ∷ areas) v d
    later h = record { place = suc h.place; area = h.area; is = h.is; germ = h.germ; germ_is = h.germ_is; covers = h.covers }

    by_germ : (g : Loc) → IsGerm area v d g → (b : Bool) → is_not_exterior g ≡ b → HasCover areas v d
        ⊎ HoldsAlong (λ q. is_covered_by q areas ≡ false) v d → HasCover (area ∷ areas) v d
        ⊎ HoldsAlong (λ q. is_covered_by q (area ∷ areas) ≡ false) v d
    by_germ g is true h rest = inl (record { place = 0; area = area; is = refl; germ = g; germ_is = is; covers = h })
    by_germ g is false h (inl k) = inl (later k)
    by_germ g is false h (inr k) =
        inr (record {
          from = is.from + k.from;
          holds = λ n far q away.
              (λ i. is_not_exterior (is.holds n (omega (arith, far)) q away i) || k.holds n (omega (arith, far)) q away i)
              ∙ ap (λ b. b || false) h;
        })

pub cover_of : (areas : List Area) → All IsAreaShaped areas → (v : Point) (d : Direction)
    → HoldsAlong (λ q. is_covered_by q areas ≡ true) v d → HasCover areas v d
cover_of areas shaped v d h = go (cover_or_none areas shaped v d)
  where
    go : HasCover areas v d ⊎ HoldsAlong (λ q. is_covered_by q areas ≡ false) v d → HasCover areas v d
    go (inl k) = k
    go (inr k) =
        let n = h.from + k.from in
        let q = away_point v d n in
        absurd (true≢false (sym (h.holds (suc n) (omega arith) q (away_point_is v d n))
        ∙ k.holds (suc n) (omega arith) q (away_point_is v d n)))
