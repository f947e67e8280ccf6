-- Taking in dimensions of cells: some and then others, one alone, and what is answered in the end.
use Rattle.std.proofs.Common.{◌≡◌, ◌≤◌, ◌⊎◌, inl, inr, ◌∙◌, refl, sym, subst, arith, Bool, true, false, Option, Some, None}
use Rattle.std.proofs.lemmas.Bool.{true≢false}
use Rattle.std.specs.Option.{is_some}
use Rattle.std.specs.Prelude.{IfNone}
use Rattle.im_matrix.specs.Cells.{rank, greater, dimension_at}
use Rattle.im_matrix.proofs.Laws.{greater-least, rank-greater, same_cell?}
use Rattle.im_matrix.specs.declared.Cell.{Cell}
use Rattle.im_matrix.specs.declared.Dim.{Dim}
use Rattle.im_matrix.specs.declared.Dim.TheVariants.{Empty, Zero, One, Two}
use Rattle.im_matrix.specs.declared.Matrix.{Matrix}
use Rattle.topo_pred.specs.declared.Progress.{Progress}
use Rattle.topo_pred.specs.Values.{query_of, matrix_of, value_at, IsSettled, IsOpen, IsRaised}
use Rattle.relate_core.specs.Taking.{HasTakenIn, IsOne}

-- ---- some and then others
-- what the matrix has from the first need not be taken in
pub taken_with_known :
    (First All : Cell → Dim → Type 0) → (p q : Progress) → ((c : Cell) (d : Dim) → First c d → All c d)
    → ((c : Cell) (d : Dim) → All c d → First c d ⊎ (rank d ≤ rank (dimension_at (matrix_of p) c))) → HasTakenIn First p q
    → HasTakenIn All p q
taken_with_known First All p q one known h = record {
  query = h.query;
  value = h.value;
  kept = h.kept;
  only = λ c. only c (h.only c);
  whole = whole h.whole;
}
  where
    only : (c : Cell) → (dimension_at (matrix_of q) c ≡ dimension_at (matrix_of p) c) ⊎ First c (dimension_at (matrix_of q) c)
        → (dimension_at (matrix_of q) c ≡ dimension_at (matrix_of p) c) ⊎ All c (dimension_at (matrix_of q) c)
    only c (inl e) = inl e
    only c (inr s) = inr (one c (dimension_at (matrix_of q) c) s)

    whole : ((v : Bool) × IsSettled q v) ⊎ ((c : Cell) (d : Dim) → First c d → rank d ≤ rank (dimension_at (matrix_of q) c))
        → ((v : Bool) × IsSettled q v) ⊎ ((c : Cell) (d : Dim) → All c d → rank d ≤ rank (dimension_at (matrix_of q) c))
    whole (inl s) = inl s
    whole (inr f) = inr (λ c d s. each c d (known c d s))
      where
        each : (c : Cell) (d : Dim) → First c d ⊎ (rank d ≤ rank (dimension_at (matrix_of p) c))
            → rank d ≤ rank (dimension_at (matrix_of q) c)
        each c d (inl s) = f c d s
        each c d (inr low) = let more = h.kept c in omega (arith, low, more)

-- so the same dimensions may have another name
pub taken_alike :
    (First Second : Cell → Dim → Type 0) → ((c : Cell) (d : Dim) → First c d → Second c d)
    → ((c : Cell) (d : Dim) → Second c d → First c d) → (p q : Progress) → HasTakenIn First p q → HasTakenIn Second p q
taken_alike First Second one back p q h = taken_with_known First Second p q one (λ c d s. inl (back c d s)) h

-- taking in some dimensions and then others is taking in both
pub taken_together :
    (First Second Both : Cell → Dim → Type 0) → ((c : Cell) (d : Dim) → First c d → Both c d)
    → ((c : Cell) (d : Dim) → Second c d → Both c d) → ((c : Cell) (d : Dim) → Both c d → First c d ⊎ Second c d)
    → (p q r : Progress) → HasTakenIn First p q → HasTakenIn Second q r → HasTakenIn Both p r
taken_together First Second Both one other either p q r h k = record {
  query = k.query ∙ h.query;
  value = λ m. k.value m ∙ h.value m;
  kept = λ c. let x = h.kept c in let y = k.kept c in omega (arith, x, y);
  only = λ c. only c (k.only c);
  whole = whole h.whole k.whole;
}
  where
    only : (c : Cell) → (dimension_at (matrix_of r) c ≡ dimension_at (matrix_of q) c) ⊎ Second c (dimension_at (matrix_of r) c)
        → (dimension_at (matrix_of r) c ≡ dimension_at (matrix_of p) c) ⊎ Both c (dimension_at (matrix_of r) c)
    only c (inr s) = inr (other c (dimension_at (matrix_of r) c) s)
    only c (inl e) = elim (h.only c) [
      | inl f ↦ inl (e ∙ f)
      | inr s ↦ inr (subst (Both c) (sym e) (one c (dimension_at (matrix_of q) c) s))
    ]

    later : (v : Bool) → IsSettled q v → IsSettled r v
    later v s m l = k.value m ∙ s m (λ c. let x = k.kept c in let y = l c in omega (arith, x, y))

    whole : ((v : Bool) × IsSettled q v) ⊎ ((c : Cell) (d : Dim) → First c d → rank d ≤ rank (dimension_at (matrix_of q) c))
        → ((v : Bool) × IsSettled r v) ⊎ ((c : Cell) (d : Dim) → Second c d → rank d ≤ rank (dimension_at (matrix_of r) c))
        → ((v : Bool) × IsSettled r v) ⊎ ((c : Cell) (d : Dim) → Both c d → rank d ≤ rank (dimension_at (matrix_of r) c))
    whole (inl s) y = inl (s.0, later s.0 s.1)
    whole (inr f) (inl s) = inl s
    whole (inr f) (inr g) = inr (λ c d b. both c d (either c d b))
      where
        both : (c : Cell) (d : Dim) → First c d ⊎ Second c d → rank d ≤ rank (dimension_at (matrix_of r) c)
        both c d (inl s) = let x = f c d s in let y = k.kept c in omega (arith, x, y)
        both c d (inr s) = g c d s

-- so of two kinds together
pub taken_either :
    (First Second : Cell → Dim → Type 0) → (p q r : Progress) → HasTakenIn First p q → HasTakenIn Second q r
    → HasTakenIn (λ c d. First c d ⊎ Second c d) p r
taken_either First Second p q r h k =
    taken_together First Second (λ c d. First c d ⊎ Second c d) (λ c d s. inl s) (λ c d s. inr s) (λ c d s. s) p q r h k

-- ---- nothing
-- where there is nothing to take in
pub taken_nothing : (Is : Cell → Dim → Type 0) (p : Progress) → ((c : Cell) (d : Dim) → ¬ Is c d) → HasTakenIn Is p p
taken_nothing Is p none = record {
  query = refl;
  value = λ m. refl;
  kept = λ c. omega arith;
  only = λ c. inl refl;
  whole = inr (λ c d s. absurd (none c d s));
}

-- where the value is settled
taken_settled : (Is : Cell → Dim → Type 0) (p : Progress) (v : Bool) → IsSettled p v → HasTakenIn Is p p
taken_settled Is p v s = record {
  query = refl;
  value = λ m. refl;
  kept = λ c. omega arith;
  only = λ c. inl refl;
  whole = inl (v, s);
}

-- where it is known
pub taken_where_known :
    (Is : Cell → Dim → Type 0) (p : Progress) (r : Option Bool) → is_some r ≡ true
    → ((v : Bool) → r ≡ Some v → IsSettled p v) → HasTakenIn Is p p
taken_where_known Is p (Some v) e f = taken_settled Is p v (f v refl)
taken_where_known Is p None e f = absurd (true≢false (sym e))

-- where it isn't, the query is open
pub open_where_unknown : (p : Progress) (r : Option Bool) → is_some r ≡ false → IfNone r (IsOpen p) → IsOpen p
open_where_unknown p (Some v) e h = absurd (true≢false e)
open_where_unknown p None e h = h

-- ---- one feed
-- the greater of two dimensions is one of them
one_of : (x d : Dim) → (greater x d ≡ x) ⊎ (greater x d ≡ d)
one_of Empty d = inr refl
one_of Zero Empty = inl refl
one_of Zero Zero = inl refl
one_of Zero One = inr refl
one_of Zero Two = inr refl
one_of One Empty = inl refl
one_of One Zero = inl refl
one_of One One = inl refl
one_of One Two = inr refl
one_of Two d = inl refl

-- and it is at least the second
second_below : (x d : Dim) → rank d ≤ rank (greater x d)
second_below x d = omega (arith, rank-greater x d)

-- a cell that is raised has taken in this dimension
pub taken_one :
    (p q : Progress) (c : Cell) (d : Dim) → query_of q ≡ query_of p → ((m : Matrix) → value_at q m ≡ value_at p m)
    → IsRaised (matrix_of p) (matrix_of q) c d → HasTakenIn (IsOne c d) p q
taken_one p q c d e v r = record {
  query = e;
  value = v;
  kept = λ x. kept x (same_cell? x c);
  only = λ x. only x (same_cell? x c);
  whole = inr (λ x f h. whole x f h);
}
  where
    at : (x : Cell) → x ≡ c → dimension_at (matrix_of q) x ≡ greater (dimension_at (matrix_of p) x) d
    at x s = subst (λ z. dimension_at (matrix_of q) z ≡ greater (dimension_at (matrix_of p) z) d) (sym s) r.raised

    kept : (x : Cell) → (x ≡ c) ⊎ (¬ (x ≡ c)) → rank (dimension_at (matrix_of p) x) ≤ rank (dimension_at (matrix_of q) x)
    kept x (inl s) =
        subst (λ z. rank (dimension_at (matrix_of p) x) ≤ rank z) (sym (at x s)) (greater-least (dimension_at (matrix_of p) x) d)
    kept x (inr n) = subst (λ z. rank (dimension_at (matrix_of p) x) ≤ rank z) (sym (r.others x n)) (omega arith)

    only : (x : Cell) → (x ≡ c) ⊎ (¬ (x ≡ c))
        → (dimension_at (matrix_of q) x ≡ dimension_at (matrix_of p) x) ⊎ IsOne c d x (dimension_at (matrix_of q) x)
    only x (inr n) = inl (r.others x n)
    only x (inl s) = elim (one_of (dimension_at (matrix_of p) x) d) [
      | inl i ↦ inl (at x s ∙ i)
      | inr i ↦ inr (s, at x s ∙ i)
    ]

    whole : (x : Cell) (f : Dim) → IsOne c d x f → rank f ≤ rank (dimension_at (matrix_of q) x)
    whole x f h =
        subst (λ z. rank z ≤ rank (dimension_at (matrix_of q) x)) (sym h.1)
        (subst (λ z. rank d ≤ rank z) (sym (at x h.0)) (second_below (dimension_at (matrix_of p) x) d))

-- ---- in the end
-- The answer on the present matrix is that on any matrix that is at least the first one and all dimensions that were to be taken in;
-- this matrix has to be the present one where all were.
pub answer_is :
    (Is : Cell → Dim → Type 0) (p q : Progress) (m : Matrix) → HasTakenIn Is p q
    → ((c : Cell) → rank (dimension_at (matrix_of p) c) ≤ rank (dimension_at m c))
    → ((c : Cell) (d : Dim) → Is c d → rank d ≤ rank (dimension_at m c))
    → (((c : Cell) (d : Dim) → Is c d → rank d ≤ rank (dimension_at (matrix_of q) c)) → m ≡ matrix_of q)
    → value_at q (matrix_of q) ≡ value_at q m
answer_is Is p q m h base most same = by_whole h.whole
  where
    at_least : (c : Cell)
        → (dimension_at (matrix_of q) c ≡ dimension_at (matrix_of p) c) ⊎ Is c (dimension_at (matrix_of q) c)
        → rank (dimension_at (matrix_of q) c) ≤ rank (dimension_at m c)
    at_least c (inl e) = subst (λ d. rank d ≤ rank (dimension_at m c)) (sym e) (base c)
    at_least c (inr s) = most c (dimension_at (matrix_of q) c) s

    by_whole : ((v : Bool) × IsSettled q v) ⊎ ((c : Cell) (d : Dim) → Is c d → rank d ≤ rank (dimension_at (matrix_of q) c))
        → value_at q (matrix_of q) ≡ value_at q m
    by_whole (inl s) = s.1 (matrix_of q) (λ c. omega arith) ∙ sym (s.1 m (λ c. at_least c (h.only c)))
    by_whole (inr f) = λ i. value_at q (sym (same f) i)
