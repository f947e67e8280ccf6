-- What is known of a test, by two matrices that give it different values.
use Rattle.std.proofs.Common.{◌≡◌, ◌∙◌, sym, ℕ, Bool, true, false, Some, None, refl}
use Rattle.std.specs.Prelude.{◌&&◌, ◌||◌, not, nat_lt}
use Rattle.std.specs.Bool.{then_some}
use Rattle.im_matrix.specs.declared.Loc.{Loc}
use Rattle.im_matrix.specs.declared.Matrix.{Matrix}
use Rattle.im_matrix.specs.Cells.{cell, dimension_at, rank}
use Rattle.im_matrix.specs.Common.{has}
use Rattle.topo_pred.specs.Later.{IsAtLeast, IsKnown}
use Rattle.im_matrix.proofs.Laws.{is_present-later}
use Rattle.topo_pred.proofs.Matrices.{everywhere, everywhere-most, itself}
use Rattle.topo_pred.proofs.CellTests.{lt-later, or-later, and-later, and_not_false, and_not_true}

-- a test that stays true where the matrix rises
abbrev pub IsRising : (Matrix → Bool) → Type 0
IsRising q = (now later : Matrix) → IsAtLeast later now → q now ≡ true → q later ≡ true

-- a common point stays
pub rising-has : (a b : Loc) → IsRising (λ m. has m a b)
rising-has a b now later more h =
    is_present-later (dimension_at now (cell a b)) (dimension_at later (cell a b)) (more (cell a b)) h

-- a dimension above a bound stays above it
pub rising-rank : (n : ℕ) (a b : Loc) → IsRising (λ m. nat_lt n (rank (dimension_at m (cell a b))))
rising-rank n a b now later more h =
    lt-later n (rank (dimension_at now (cell a b))) (rank (dimension_at later (cell a b))) (more (cell a b)) h

-- one of two rising tests
pub rising-or : (p q : Matrix → Bool) → IsRising p → IsRising q → IsRising (λ m. p m || q m)
rising-or p q rp rq now later more h =
    or-later (p now) (q now) (p later) (q later) (rp now later more) (rq now later more) h

-- both of two rising tests
pub rising-and : (p q : Matrix → Bool) → IsRising p → IsRising q → IsRising (λ m. p m && q m)
rising-and p q rp rq now later more h =
    and-later (p now) (q now) (p later) (q later) (rp now later more) (rq now later more) h

-- a value that no later matrix can change
pub known_value :
    (test : Matrix → Bool) (m : Matrix) (v : Bool) → ((later : Matrix) → IsAtLeast later m → test later ≡ v) → IsKnown test m (Some v)
known_value test m v all = all

-- no value, where two later matrices give different ones
pub known_none :
    (test : Matrix → Bool) (m x y : Matrix) → IsAtLeast x m → IsAtLeast y m → test x ≡ false → test y ≡ true
    → IsKnown test m None
known_none test m x y mx my ex ey =
    record { one = x; other = y; one_later = mx; other_later = my; differ = λ same. (let e : false ≡ true = sym ex ∙ same ∙ ey in cc) }

-- the test asks for p and no q: it is false for good where q is true, and open elsewhere, if some
-- later matrix has p and no more of q
pub refuted_by :
    (test p q : Matrix → Bool) (m y : Matrix) → ((x : Matrix) → test x ≡ p x && not (q x)) → IsRising q
    → q everywhere ≡ true → IsAtLeast y m → p y ≡ true → q y ≡ q m → IsKnown test m (then_some (q m) false)
refuted_by test p q m y means rising all my py same = go (q m) refl where
  go : (b : Bool) → q m ≡ b → IsKnown test m (then_some b false)
  go true e =
      known_value test m false
      (λ later more. means later ∙ and_not_false (p later) (q later) (rising m later more e))
  go false e =
      known_none test m everywhere y (everywhere-most m) my
      (means everywhere ∙ and_not_false (p everywhere) (q everywhere) all)
      (means y ∙ and_not_true (p y) (q y) py (same ∙ e))

-- the test asks for q alone: it is true for good where q is true, and open elsewhere
pub confirmed_by :
    (test q : Matrix → Bool) (m : Matrix) → ((x : Matrix) → test x ≡ q x) → IsRising q → q everywhere ≡ true
    → IsKnown test m (then_some (q m) true)
confirmed_by test q m means rising all = go (q m) refl where
  go : (b : Bool) → q m ≡ b → IsKnown test m (then_some b true)
  go true e = known_value test m true (λ later more. means later ∙ rising m later more e)
  go false e = known_none test m m everywhere (itself m) (everywhere-most m) (means m ∙ e) (means everywhere ∙ all)
