-- The edges of a way of which no two neighbouring positions are equal: one for each step.
use Rattle.std.proofs.Common.{◌≡◌, ℕ, pos, List, [], ◌∷◌, map, refl, ap, ◌∙◌}
use Rattle.std.proofs.lemmas.Bool.{false_from_ne_true}
use Rattle.plane_exact.specs.declared.point.Pt.{Pt}
use Rattle.plane_exact.specs.declared.point.Seg.{Seg}
use Rattle.point_set.specs.Rings.{is_same_position, edge_before, edges_after, edges_of}
use Rattle.figure_laws.proofs.Lists.Places.{same_position}
use Rattle.sample_figures.specs.Samples.{exchanged, position_at}

-- The segments between neighbouring positions of a way that goes on from p.
abbrev pub steps_after : Pt → List Pt → List Seg
steps_after p [] = []
steps_after p (q ∷ others) = record { a = p; b = q } ∷ steps_after q others

-- No position of a way that goes on from p is that before it.
abbrev pub Moves : Pt → List Pt → Type 0
Moves p [] = Unit {0}
Moves p (q ∷ others) = (¬ (p ≡ q)) × Moves q others

-- the edges of such a way are its steps
pub edges_by_steps : (p : Pt) (others : List Pt) → Moves p others → edges_of (p ∷ others) ≡ steps_after p others
edges_by_steps p [] moves = refl
edges_by_steps p (q ∷ others) moves =
    ap (λ same. edge_before same p q (edges_after q others))
    (false_from_ne_true (is_same_position p q) (λ e. moves.0 (same_position p q e)))
    ∙ ap (λ (edges : List Seg). record { a = p; b = q } ∷ edges) (edges_by_steps q others moves.1)

-- positions with different abscissas differ
pub moves_across : {x y x' y' : ℕ} → ¬ (x ≡ x') → ¬ (position_at x y ≡ position_at x' y')
moves_across {x} {y} {x'} {y'} apart same = apart (let e : pos x ≡ pos x' = ap (λ (p : Pt). p.x) same in cc)

-- positions with different heights differ
pub moves_up : {x y x' y' : ℕ} → ¬ (y ≡ y') → ¬ (position_at x y ≡ position_at x' y')
moves_up {x} {y} {x'} {y'} apart same = apart (let e : pos y ≡ pos y' = ap (λ (p : Pt). p.y) same in cc)

-- The edge with x and y exchanged.
abbrev pub exchanged_edge : Seg → Seg
exchanged_edge e = record { a = exchanged e.a; b = exchanged e.b }

-- exchanging keeps positions apart
pub moves_exchanged : (p : Pt) (others : List Pt) → Moves p others → Moves (exchanged p) (map exchanged others)
moves_exchanged p [] moves = tt
moves_exchanged p (q ∷ others) moves = (λ same. moves.0 (ap exchanged same), moves_exchanged q others moves.1)

-- and exchanges the steps
pub steps_exchanged : (p : Pt) (others : List Pt)
    → steps_after (exchanged p) (map exchanged others) ≡ map exchanged_edge (steps_after p others)
steps_exchanged p [] = refl
steps_exchanged p (q ∷ others) = ap (λ (edges : List Seg). record { a = exchanged p; b = exchanged q } ∷ edges) (steps_exchanged q others)
