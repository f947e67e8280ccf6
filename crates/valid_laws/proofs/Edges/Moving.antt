-- Edges have two different ends.
use Rattle.std.proofs.Common.{◌≡◌, ℕ, zero, suc, Bool, true, false, List, [], ◌∷◌, ◌++◌, refl, sym, ◌∙◌, subst}
use Rattle.std.proofs.lemmas.Bool.{true≢false}
use Rattle.plane_exact.specs.declared.point.Pt.{Pt}
use Rattle.plane_exact.specs.declared.point.Seg.{Seg}
use Rattle.point_set.specs.Rings.{is_same_position, edge_before, edges_after, edges_of}
use Rattle.point_set.specs.Location.{rings_of, edges_of_rings}
use Rattle.point_set.specs.Validity.{IsAtPlace}
use Rattle.figure_laws.proofs.Lists.Places.{some_same}
use Rattle.side_laws.proofs.Edges.Places.{same_positions}
use Rattle.valid_laws.specs.Entering.{LawMoving}

abbrev AllMove : List Seg → Type 0
AllMove [] = Unit {0}
AllMove (e ∷ edges) = (is_same_position e.a e.b ≡ false) × AllMove edges

move_before : (b : Bool) (p q : Pt) (edges : List Seg) → is_same_position p q ≡ b → AllMove edges → AllMove (edge_before b p q edges)
move_before true p q edges h all = all
move_before false p q edges h all = (h, all)

move_after : (p : Pt) (others : List Pt) → AllMove (edges_after p others)
move_after p [] = tt
move_after p (q ∷ others) = move_before (is_same_position p q) p q (edges_after q others) refl (move_after q others)

move_ring : (ring : List Pt) → AllMove (edges_of ring)
move_ring [] = tt
move_ring (p ∷ others) = move_after p others

move_both : (xs ys : List Seg) → AllMove xs → AllMove ys → AllMove (xs ++ ys)
move_both [] ys h k = k
move_both (e ∷ xs) ys h k = (h.0, move_both xs ys h.1 k)

move_rings : (rings : List (List Pt)) → AllMove (edges_of_rings rings)
move_rings [] = tt
move_rings (ring ∷ rings) = move_both (edges_of ring) (edges_of_rings rings) (move_ring ring) (move_rings rings)

move_at : (edges : List Seg) → AllMove edges → (i : ℕ) (e : Seg) → IsAtPlace edges i e → is_same_position e.a e.b ≡ false
move_at [] all i e is = cc
move_at (g ∷ edges) all zero e is = subst (λ h. is_same_position h.a h.b ≡ false) (some_same is) all.0
move_at (g ∷ edges) all (suc i) e is = move_at edges all.1 i e is

pub moving : LawMoving
moving area i e is one = true≢false
    (sym (same_positions e.a e.b one) ∙ move_at (edges_of_rings (rings_of area)) (move_rings (rings_of area)) i e is)
