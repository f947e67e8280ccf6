use Rattle.std.proofs.Common.{◌≡◌, ℕ, ◌<◌, length, List, get_or, refl, sym, ◌∙◌, subst, ap, arith}
use Rattle.std.specs.List.{All, Contains}
use Rattle.std.proofs.lemmas.Bool.{false≢true}
use Rattle.std.proofs.lemmas.Option.{slice_get-get_or}
use Rattle.plane_exact.specs.declared.point.Pt.{Pt}
use Rattle.point_set.specs.declared.figure.Area.{Area}
use Rattle.point_set.specs.Shape.{IsRingShaped}
use Rattle.figure_laws.proofs.Lists.Places.{read_at, some_same}
use Rattle.valid_laws.specs.Entering.{AreBothInside}
use Rattle.geom_valid.specs.Grounds.{OverlapsEarlierHole}
use Rattle.geom_valid.proofs.ByEntering.{holes_unshared, no_earlier_hole}
use Rattle.geom_valid.proofs.NearPlaces.{IsSoEarlier, none_earlier}
use Rattle.geom_valid.proofs.RingBoxes.{hole_boxes_meet}
use Rattle.geom_valid.proofs.RingLists.{none_on}
use Rattle.geom_valid.proofs.ring_set.RingSet.overlaps_earlier.Goals as goal
use Rattle.geom_valid.proofs.ring_set.RingSet.overlaps_earlier.Goals.{else-earlier-place-via-then-earlier-place+in_ok-overlaps+else-branch}
use Rattle.geom_valid.proofs.ring_set.RingSet.overlaps_earlier.Goals.{else-earlier-place-via-else-earlier-place}

pub overlaps-requires : goal.overlaps-requires
overlaps-requires c =
    let area = c.self.inside.area.now in
    let own : c.self.inside.holes ≡ c.args.self.now.holes = c.self.invariant.holes_are ∙ ap (λ (a : Area). a.holes) c.self.view_is in
    let below : c.args.place < length c.self.inside.holes = subst (λ (xs : List (List Pt)). c.args.place < length xs)
    (sym own) c.requires.place in
    let earlier = get_or c.as_slice-other-items.result.now c.loop-other.other-index 0 in
    let hole = read_at c.self.inside.holes area.holes c.args.place c.at-hole.result.now c.self.invariant.holes_are below
    c.at-hole.ensures.item in
    let one = read_at c.self.inside.holes area.holes earlier c.at.result.now c.self.invariant.holes_are
    (omega (arith, c.if-earlier-place.true, below)) c.at.ensures.item in
    record {
      unshared = holes_unshared area c.self.invariant.unshared earlier c.args.place c.if-earlier-place.true c.at.result.now
          c.at-hole.result.now one hole;
    }

pub returns-then-branch : goal.returns-then-branch
returns-then-branch c =
    let holes = c.args.self.now.holes in
    let own : c.self.inside.holes ≡ holes = c.self.invariant.holes_are ∙ ap (λ (a : Area). a.holes) c.self.view_is in
    let below : c.args.place < length c.self.inside.holes = subst (λ (xs : List (List Pt)). c.args.place < length xs)
    (sym own) c.requires.place in
    let earlier = get_or c.as_slice-other-items.result.now c.loop-other.other-index 0 in
    let some : OverlapsEarlierHole holes c.args.place
    = record {
      before = earlier;
      earlier = c.if-earlier-place.true;
      one = c.at.result.now;
      other = c.at-hole.result.now;
      one_is =
          read_at c.self.inside.holes holes earlier c.at.result.now own (omega (arith, c.if-earlier-place.true, below)) c.at.ensures.item;
      other_is = read_at c.self.inside.holes holes c.args.place c.at-hole.result.now own below c.at-hole.ensures.item;
      both = c.in_ok-overlaps.ensures.overlaps.0 c.if-branch.true;
    } in
    record { overlap = (λ _. some, λ _. refl) }

pub loop-other-preserved : goal.loop-other-preserved
loop-other-preserved c =
    let holes = c.args.self.now.holes in
    let own : c.self.inside.holes ≡ holes = c.self.invariant.holes_are ∙ ap (λ (a : Area). a.holes) c.self.view_is in
    let below : c.args.place < length c.self.inside.holes = subst (λ (xs : List (List Pt)). c.args.place < length xs)
    (sym own) c.requires.place in
    let near = c.as_slice-other-items.result.now in
    let i = c.loop-other.other-index in
    let not : ¬ IsSoEarlier (λ (one : List Pt). AreBothInside one c.at-hole.result.now) holes c.args.place (get_or near i 0)
    = elim c.else-earlier-place.branch [
      | else-earlier-place-via-then-earlier-place+in_ok-overlaps+else-branch w ↦ (λ so.
          let one = read_at c.self.inside.holes holes (get_or near i 0) w.at.result.now own
          (omega (arith, w.if-earlier-place.true, below)) w.at.ensures.item in
          let both = subst (λ (r : List Pt). AreBothInside r c.at-hole.result.now) (some_same (sym so.item_is ∙ one)) so.is_so in
          false≢true (sym w.if-branch.false ∙ w.in_ok-overlaps.ensures.overlaps.1 both))
      | else-earlier-place-via-else-earlier-place w ↦ (λ so. absurd (omega (arith, so.earlier, w.if-earlier-place.false)))
    ] in
    none_on (IsSoEarlier (λ (one : List Pt). AreBothInside one c.at-hole.result.now) holes c.args.place) near i
    (get_or near i 0) c.loop-other.invariant
    (slice_get-get_or near i 0 c.loop-other-test.true) not

pub returns : goal.returns
returns c =
    let area = c.args.self.now in
    let holes = area.holes in
    let own : c.self.inside.holes ≡ holes = c.self.invariant.holes_are ∙ ap (λ (a : Area). a.holes) c.self.view_is in
    let below : c.args.place < length c.self.inside.holes = subst (λ (xs : List (List Pt)). c.args.place < length xs)
    (sym own) c.requires.place in
    let hole = read_at c.self.inside.holes holes c.args.place c.at-hole.result.now own below c.at-hole.ensures.item in
    let shaped = subst (λ (a : Area). All IsRingShaped a.holes) c.self.view_is c.self.invariant.shaped.holes in
    let whole : (k : ℕ) → IsSoEarlier (λ (one : List Pt). AreBothInside one c.at-hole.result.now) holes c.args.place k
    → Contains c.as_slice-other-items.result.now k
    = λ k so. subst (λ (ks : List ℕ). Contains ks k) (sym c.as_slice-other-items.ensures.items)
    (c.in_ok-near.ensures.near k
    (hole_boxes_meet holes c.args.boxes.now c.requires.boxes shaped c.args.place k c.at-hole.result.now so.item hole so.item_is
    so.is_so)) in
    let none = none_earlier (λ (one : List Pt). AreBothInside one c.at-hole.result.now) holes c.args.place c.as_slice-other-items.result.now
    c.loop-other.other-index c.loop-other-test.false c.loop-other.invariant whole in
    record { overlap = (λ e. absurd (false≢true e), λ h. absurd (no_earlier_hole holes c.args.place c.at-hole.result.now hole none h)) }
