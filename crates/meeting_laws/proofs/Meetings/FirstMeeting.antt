-- The first meeting of a segment with some edges, from that with one edge.
use Rattle.std.proofs.Common.{◌≡◌, ◌⊎◌, inl, inr, Bool, true, false, ◌||◌, List, [], ◌∷◌, ap, refl, sym, ◌∙◌}
use Rattle.std.proofs.lemmas.Bool.{true≢false, or_left, or_right, or_parts, or_from}
use Rattle.std.specs.Ordering.{ordering_reverse}
use Rattle.std.specs.declared.cmp.Ordering.{Ordering}
use Rattle.std.specs.declared.cmp.Ordering.TheVariants.{Less, Equal, Greater}
use Rattle.plane_laws.proofs.Segments.Order.{compare_along_total, same_compare_along, not_beyond}
use Rattle.plane_laws.proofs.Segments.Mixes.{start_on_segment, end_on_segment, segment_same}
use Rattle.plane_laws.proofs.Points.Same.{same_refl, same_sym, same_trans}
use Rattle.plane_laws.specs.Orders.{compare_along}
use Rattle.plane_laws.specs.Plane.{Point, IsOnSegment, IsSamePoint}
use Rattle.plane_exact.specs.declared.point.Seg.{Seg}
use Rattle.point_set.specs.Rings.{is_on_edge, is_on_edges}
use Rattle.ring_laws.proofs.Germs.Areas.{segment_within}
use Rattle.meeting_laws.specs.Meetings.{IsFirstMeeting, LawFirstOfOne, LawFirstMeeting}

-- two points, each on the way to the other, are one
pub both_ways : {p q r : Point} → IsOnSegment p q r → IsOnSegment p r q → IsSamePoint r q
both_ways {p} {q} {r} on back = go (compare_along p q r q) refl
  where
    f : IsOnSegment p q q
    f = end_on_segment p q

    go : (o : Ordering) → compare_along p q r q ≡ o → IsSamePoint r q
    go Equal e = same_compare_along p q r q on f e
    go Greater e = absurd (not_beyond p q r q on f on e)
    go Less e = absurd (not_beyond p q q r f on back ((compare_along_total p q).antisymm q r ∙ ap ordering_reverse e))

either : (e : Seg) (edges : List Seg) (m : Point) → is_on_edges m (e ∷ edges) ≡ true → (is_on_edge m e ≡ true)
    ⊎ (is_on_edges m edges ≡ true)
either e edges m on = go (is_on_edge m e) refl
  where
    go : (b : Bool) → is_on_edge m e ≡ b → (is_on_edge m e ≡ true) ⊎ (is_on_edges m edges ≡ true)
    go true h = inl h
    go false h = inr (ap (λ b. b || is_on_edges m edges) (sym h) ∙ on)

pub of_one : (e : Seg) (m : Point) → is_on_edges m (e ∷ []) ≡ true → is_on_edge m e ≡ true
of_one e m on = go (either e [] m on)
  where
    go : (is_on_edge m e ≡ true) ⊎ (is_on_edges m [] ≡ true) → is_on_edge m e ≡ true
    go (inl h) = h
    go (inr h) = cc

pub first_meeting : LawFirstOfOne → LawFirstMeeting
first_meeting one [] p t off = inl (λ m on. refl)
first_meeting one (e ∷ edges) p t off = by_rest (first_meeting one edges p t parts.1)
  where
    parts : (is_on_edge p e ≡ false) × (is_on_edges p edges ≡ false)
    parts = or_parts (is_on_edge p e) (is_on_edges p edges) off

    here : (m : Point) → is_on_edge m e ≡ true → is_on_edges m (e ∷ edges) ≡ true
    here m h = or_left (is_on_edge m e) (is_on_edges m edges) h

    there : (m : Point) → is_on_edges m edges ≡ true → is_on_edges m (e ∷ edges) ≡ true
    there m h = or_right (is_on_edge m e) (is_on_edges m edges) h

    up_to : {q m : Point} → IsOnSegment p t q → IsOnSegment p q m → IsOnSegment p t m
    up_to on within = segment_within (start_on_segment p t) on within

    by_rest : ((m : Point) → IsOnSegment p t m → is_on_edges m edges ≡ false) ⊎ ((q : Point) × IsFirstMeeting edges p t q)
        → ((m : Point) → IsOnSegment p t m → is_on_edges m (e ∷ edges) ≡ false) ⊎ ((q : Point) × IsFirstMeeting (e ∷ edges) p t q)
    by_rest (inl free) = by_first (one e p t parts.0)
      where
        by_first : ((m : Point) → IsOnSegment p t m → is_on_edge m e ≡ false) ⊎ ((q : Point) × IsFirstMeeting (e ∷ []) p t q)
            → ((m : Point) → IsOnSegment p t m → is_on_edges m (e ∷ edges) ≡ false) ⊎ ((q : Point) × IsFirstMeeting (e ∷ edges) p t q)
        by_first (inl also) = inl (λ m on. or_from (is_on_edge m e) (is_on_edges m edges) (also m on) (free m on))
        by_first (inr (q, meeting)) = inr (
          q,
          record {
            on_way = meeting.on_way;
            on = here q (of_one e q meeting.on);
            first = λ m within on. by_either m within (either e edges m on);
          },
        )
          where
            by_either : (m : Point) → IsOnSegment p q m → (is_on_edge m e ≡ true) ⊎ (is_on_edges m edges ≡ true) → IsSamePoint m q
            by_either m within (inl h) = meeting.first m within (or_left (is_on_edge m e) (is_on_edges m []) h)
            by_either m within (inr h) = absurd (true≢false (sym h ∙ free m (up_to meeting.on_way within)))
    by_rest (inr (q, meeting)) = by_first (one e p q parts.0)
      where
        by_first : ((m : Point) → IsOnSegment p q m → is_on_edge m e ≡ false) ⊎ ((r : Point) × IsFirstMeeting (e ∷ []) p q r)
            → ((m : Point) → IsOnSegment p t m → is_on_edges m (e ∷ edges) ≡ false) ⊎ ((s : Point) × IsFirstMeeting (e ∷ edges) p t s)
        by_first (inl free) = inr (
          q,
          record {
            on_way = meeting.on_way;
            on = there q meeting.on;
            first = λ m within on. by_either m within (either e edges m on);
          },
        )
          where
            by_either : (m : Point) → IsOnSegment p q m → (is_on_edge m e ≡ true) ⊎ (is_on_edges m edges ≡ true) → IsSamePoint m q
            by_either m within (inl h) = absurd (true≢false (sym h ∙ free m within))
            by_either m within (inr h) = meeting.first m within h
        by_first (inr (r, nearer)) = inr (
          r,
          record {
            on_way = up_to meeting.on_way nearer.on_way;
            on = here r (of_one e r nearer.on);
            first = λ m within on. by_either m within (either e edges m on);
          },
        )
          where
            by_either : (m : Point) → IsOnSegment p r m → (is_on_edge m e ≡ true) ⊎ (is_on_edges m edges ≡ true) → IsSamePoint m r
            by_either m within (inl h) = nearer.first m within (or_left (is_on_edge m e) (is_on_edges m []) h)
            by_either m within (inr h) =
                let same_q = meeting.first m (segment_within (start_on_segment p q) nearer.on_way within) h in
                same_trans same_q (same_sym (both_ways nearer.on_way (segment_same (same_refl p) (same_refl r) same_q within)))
