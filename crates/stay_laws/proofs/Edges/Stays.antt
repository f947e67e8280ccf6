-- An edge that holds one point of a node-free part of another edge holds all of that part.
use Rattle.std.proofs.Common.{◌≡◌, ◌⊎◌, inl, inr, ℕ, suc, Bool, true, false, List, [], ◌∷◌, ◌++◌, refl}
use Rattle.std.proofs.lemmas.Bool.Decides.{not_from_Decides}
use Rattle.plane_laws.proofs.Segments.Mixes.{start_on_segment, end_on_segment, segment_flip, segment_same}
use Rattle.plane_laws.proofs.Segments.On.{Decides-is_on_segment, on_segment_of_same}
use Rattle.plane_laws.proofs.Points.Same.{same_refl, same_sym, Decides-is_same_point}
use Rattle.plane_laws.specs.Plane.{Point, IsSamePoint, IsOnSegment, IsStrictlyBetween, is_same_point}
use Rattle.plane_exact.specs.Places.{point_of}
use Rattle.plane_laws.specs.Directions.{Direction}
use Rattle.plane_exact.specs.declared.point.Pt.{Pt}
use Rattle.plane_exact.specs.declared.point.Seg.{Seg}
use Rattle.point_set.specs.declared.figure.Figure.{Figure}
use Rattle.plane_laws.specs.Along.{IsInCone}
use Rattle.point_set.specs.Lines.{is_at_some}
use Rattle.point_set.specs.Rings.{is_on_edge}
use Rattle.point_set.specs.Validity.{IsAtPlace, IsOnEdge}
use Rattle.ring_laws.proofs.Germs.Areas.{segment_within}
use Rattle.ring_laws.proofs.Germs.Edges.{on_true, direction_pointed, ends_decide, is_toward, Decides-is_toward}
use Rattle.germ_laws.proofs.Room.Germs.{bool_same, AreAllAlike}
use Rattle.kind_laws.proofs.Hands.InSector.{strictly_from_on}
use Rattle.germ_laws.proofs.Rays.WayTo.{way_to, way_to_is}
use Rattle.germ_laws.proofs.Room.Starry.{ray_order}
use Rattle.point_set.specs.Nodes.{all_positions, segs_of, segs_of_both, IsOnlyCommonPoint, IsNode, position, crossing}
use Rattle.kind_laws.proofs.Location.EdgeRays.{all_place}
use Rattle.stay_laws.proofs.Edges.Ends.{HasEndsIn, ends_in_both}
use Rattle.stay_laws.proofs.Even.Even.{IsEvenBetween, alike_split}
use Rattle.stay_laws.proofs.Edges.LineOrder.{IsBeside, toward, opposite, beside, other_end}
use Rattle.stay_laws.proofs.Stays.OffEdges.{no_position}

-- ---- two edges and two points of the first
-- e holds x and y, g holds x; no end of g is from x to y: then g holds y, or x is the only point that both edges hold
module _ (e g : Seg) (x y : Point) (apart : ¬ IsSamePoint x y) (e_x : IsOnEdge e x) (e_y : IsOnEdge e y) (g_x : IsOnEdge g x)
    (first_off : ¬ IsOnSegment x y (point_of g.a)) (second_off : ¬ IsOnSegment x y (point_of g.b)) where
  -- the way from x to y
  onward : Direction
  onward = way_to x y apart

  -- an end that lies towards y is beyond it
  beyond : (a : Pt) → IsOnEdge g (point_of a) → ¬ IsOnSegment x y (point_of a) → IsInCone x onward onward (point_of a) → IsOnEdge g y
  unfolding onward
  beyond a on_a off c = by_order (ray_order (way_to_is x y apart) c)
    where
      by_order : IsOnSegment x (point_of a) y ⊎ IsOnSegment x y (point_of a) → IsOnEdge g y
      by_order (inl h) = segment_within g_x on_a h
      by_order (inr h) = absurd (off h)

  -- neither end is x
  first_apart : ¬ IsSamePoint (point_of g.a) x
  first_apart h = first_off (segment_same (same_refl x) (same_refl y) (same_sym h) (start_on_segment x y))

  -- nor is the second
  second_apart : ¬ IsSamePoint (point_of g.b) x
  second_apart h = second_off (segment_same (same_refl x) (same_refl y) (same_sym h) (start_on_segment x y))

  -- an edge whose ends are equal holds nothing else
  moves : ¬ IsSamePoint (point_of g.a) (point_of g.b)
  moves h = first_apart (on_segment_of_same h g_x)

  -- x is strictly between the ends
  inner : IsStrictlyBetween (point_of g.a) (point_of g.b) x
  inner = strictly_from_on moves g_x first_apart second_apart

  -- and seen the other way round
  inner_back : IsStrictlyBetween (point_of g.b) (point_of g.a) x
  inner_back = strictly_from_on (λ h. moves (same_sym h)) (segment_flip g_x) second_apart first_apart

  -- an end of g that lies from x towards a point z of g, where y is opposite: the other end lies towards y
  module _ (z : Point) (away : ¬ IsSamePoint x z) (g_z : IsOnEdge g z) where
    -- one end towards z: then the other lies towards y, or z does
    by_end :
        {one other : Point} → IsStrictlyBetween one other x → IsInCone x (way_to x z away) (way_to x z away) one → IsBeside x y z apart
        → IsInCone x onward onward other ⊎ IsInCone x onward onward z
    unfolding onward
    by_end between c (toward t) = inr t
    by_end between c (opposite u w hu hw h k) = inl (other_end apart away u w hu hw h k between c)

    -- no end lies towards y: then z isn't on e
    none_toward : ¬ IsInCone x onward onward (point_of g.a) → ¬ IsInCone x onward onward (point_of g.b) → ¬ IsOnEdge e z
    none_toward not_a not_b e_z = by_ends (is_toward x f (point_of g.a)) (is_toward x f (point_of g.b)) refl refl
      where
        f : Direction
        f = way_to x z away

        -- z itself isn't towards y
        not_z : ¬ IsInCone x onward onward z
        not_z c =
            ends_decide x onward onward (point_of g.a) (point_of g.b) z (direction_pointed x onward) g_x g_z
            (record { first = not_a; second = not_b }) c

        by_a : IsInCone x onward onward (point_of g.b) ⊎ IsInCone x onward onward z → ⊥
        by_a (inl c) = not_b c
        by_a (inr c) = not_z c

        by_b : IsInCone x onward onward (point_of g.a) ⊎ IsInCone x onward onward z → ⊥
        by_b (inl c) = not_a c
        by_b (inr c) = not_z c

        by_ends : (s t : Bool) → is_toward x f (point_of g.a) ≡ s → is_toward x f (point_of g.b) ≡ t → ⊥
        by_ends true t h k = by_a (by_end inner ((Decides-is_toward x f (point_of g.a)).0 h) (beside e_x e_y e_z apart away))
        by_ends false true h k = by_b (by_end inner_back ((Decides-is_toward x f (point_of g.b)).0 k) (beside e_x e_y e_z apart away))
        by_ends false false h k =
            ends_decide x f f (point_of g.a) (point_of g.b) z (direction_pointed x f) g_x g_z
            (record {
              first = not_from_Decides (is_toward x f (point_of g.a)) (Decides-is_toward x f (point_of g.a)) h;
              second = not_from_Decides (is_toward x f (point_of g.b)) (Decides-is_toward x f (point_of g.b)) k;
            })
            (way_to_is x z away)

  -- g holds y, or x is the only common point
  pub holds_or_crosses : IsOnEdge g y ⊎ IsOnlyCommonPoint e g x
  holds_or_crosses = by_ends (is_toward x onward (point_of g.a)) (is_toward x onward (point_of g.b)) refl refl
    where
      only :
          ¬ IsInCone x onward onward (point_of g.a) → ¬ IsInCone x onward onward (point_of g.b) → (z : Point) → IsOnEdge e z → IsOnEdge g z
          → IsSamePoint z x
      only not_a not_b z e_z g_z = by_test (is_same_point x z) refl
        where
          by_test : (s : Bool) → is_same_point x z ≡ s → IsSamePoint z x
          by_test true h = same_sym ((Decides-is_same_point x z).0 h)
          by_test false h = absurd (none_toward z (not_from_Decides (is_same_point x z) (Decides-is_same_point x z) h) g_z not_a not_b e_z)

      by_ends :
          (s t : Bool) → is_toward x onward (point_of g.a) ≡ s → is_toward x onward (point_of g.b) ≡ t
          → IsOnEdge g y ⊎ IsOnlyCommonPoint e g x
      by_ends true t h k =
          inl (beyond g.a (start_on_segment (point_of g.a) (point_of g.b)) first_off ((Decides-is_toward x onward (point_of g.a)).0 h))
      by_ends false true h k =
          inl (beyond g.b (end_on_segment (point_of g.a) (point_of g.b)) second_off ((Decides-is_toward x onward (point_of g.b)).0 k))
      by_ends false false h k =
          inr (record {
            on_e = e_x;
            on_f = g_x;
            only = only
                (not_from_Decides (is_toward x onward (point_of g.a)) (Decides-is_toward x onward (point_of g.a)) h)
                (not_from_Decides (is_toward x onward (point_of g.b)) (Decides-is_toward x onward (point_of g.b)) k);
          })

-- ---- a list of edges, each of which holds both points or neither
-- where the edge at each place does, all do
pub alike_by_places :
    (p m : Point) (edges : List Seg) → ((j : ℕ) (g : Seg) → IsAtPlace edges j g → is_on_edge p g ≡ is_on_edge m g) → AreAllAlike p m edges
alike_by_places p m [] each = tt
alike_by_places p m (e ∷ edges) each = (each 0 e refl, alike_by_places p m edges (λ j g is. each (suc j) g is))

-- ---- two figures
module _ (a b : Figure) (i : ℕ) (e : Seg) (e_is : IsAtPlace (segs_of_both a b) i e) (p q : Point) (e_p : IsOnEdge e p) (e_q : IsOnEdge e q)
    (free : (m : Point) → IsOnSegment p q m → ¬ IsNode a b m) where
  -- an edge that holds one point of the way from p to q holds each
  edge_holds :
      (j : ℕ) (g : Seg) → IsAtPlace (segs_of_both a b) j g → (x y : Point) → IsOnSegment p q x → IsOnSegment p q y → IsOnEdge g x
      → IsOnEdge g y
  edge_holds j g g_is x y on_x on_y g_x = by_test (is_same_point x y) refl
    where
      ends : HasEndsIn (all_positions a ++ all_positions b) g
      ends = all_place (HasEndsIn (all_positions a ++ all_positions b)) (segs_of_both a b) (ends_in_both a b) j g g_is

      -- a position is a node, and so none is from x to y
      off : (end : Point) → is_at_some end (all_positions a ++ all_positions b) ≡ true → ¬ IsOnSegment x y end
      off end at on = free end (segment_within on_x on_y on) (position at)

      by_case : IsOnEdge g y ⊎ IsOnlyCommonPoint e g x → IsOnEdge g y
      by_case (inl h) = h
      by_case (inr h) = absurd (free x on_x (crossing (record { i = i; j = j; e = e; f = g; e_is = e_is; f_is = g_is; meet = h })))

      by_test : (s : Bool) → is_same_point x y ≡ s → IsOnEdge g y
      by_test true h = segment_same (same_refl (point_of g.a)) (same_refl (point_of g.b)) ((Decides-is_same_point x y).0 h) g_x
      by_test false h =
          by_case (holds_or_crosses e g x y (not_from_Decides (is_same_point x y) (Decides-is_same_point x y) h)
          (segment_within e_p e_q on_x) (segment_within e_p e_q on_y) g_x (off (point_of g.a) ends.first) (off (point_of g.b) ends.second))

  -- so each edge is alike at p and at each point of the way
  all_alike : (m : Point) → IsOnSegment p q m → AreAllAlike p m (segs_of a ++ segs_of b)
  all_alike m on = alike_by_places p m (segs_of a ++ segs_of b) (λ j g g_is.
      bool_same (is_on_edge p g) (is_on_edge m g)
      (λ h. (Decides-is_on_segment (point_of g.a) (point_of g.b) m).1
      (edge_holds j g g_is p m (start_on_segment p q) on (on_true {p = p} {f = g} h)))
      (λ h. (Decides-is_on_segment (point_of g.a) (point_of g.b) p).1
      (edge_holds j g g_is m p on (start_on_segment p q) (on_true {p = m} {f = g} h))))

  -- so from p to q both figures are even
  pub even_on_edge : IsEvenBetween a p q × IsEvenBetween b p q
  even_on_edge = (
    record {
      alike = λ m on. (alike_split p m (segs_of a) (segs_of b) (all_alike m on)).0;
      lone = λ m on. (no_position a b m (free m on)).0;
    },
    record {
      alike = λ m on. (alike_split p m (segs_of a) (segs_of b) (all_alike m on)).1;
      lone = λ m on. (no_position a b m (free m on)).1;
    },
  )
