-- What is known of a query.
use Rattle.std.proofs.Common.{◌≡◌, ◌∙◌, sym, refl, ◌↔◌, Bool, Option, Some, None, ap, IfNone}
use Rattle.im_matrix.specs.declared.Dim.{Dim}
use Rattle.im_matrix.specs.declared.Matrix.{Matrix}
use Rattle.topo_pred.specs.declared.Answer.{Answer}
use Rattle.topo_pred.specs.declared.Answer.TheVariants.{Im, Truth}
use Rattle.topo_pred.specs.declared.Query.{Query}
use Rattle.topo_pred.specs.declared.Query.TheVariants.{Relate}
use Rattle.topo_pred.specs.declared.Progress.{Progress}
use Rattle.topo_pred.specs.Later.{IsAtLeast, IsUndecided, IsKnown}
use Rattle.topo_pred.specs.Values.{query_of, value_of, IsSettled, IsOpen, IsOpenAt, asks_matrix, undecided}
use Rattle.topo_pred.proofs.Matrices.{itself}

-- what is known of a test is known of the answer that tells it
pub truth_known :
    (test : Matrix → Bool) (m : Matrix) (r : Option Bool) → IsKnown test m r → (v : Bool) →
    (r ≡ Some v) ↔ ((later : Matrix) → IsAtLeast later m → Truth (test later) ≡ Truth v)
truth_known test m (Some w) known v = (
  λ e later more. ap (λ (b : Bool). Truth b) (known later more ∙ (let same : w ≡ v = cc in same)),
  λ h. (
      let now : Truth (test m) ≡ Truth v = h m (itself m) in
      let known_now : test m ≡ w = known m (itself m) in
      cc
      ),
)
truth_known test m None known v = (
  λ e. cc,
  λ h. absurd (
      let one : Truth (test known.one) ≡ Truth v = h known.one known.one_later in
      let other : Truth (test known.other) ≡ Truth v = h known.other known.other_later in
      known.differ (let same : test known.one ≡ test known.other = cc in same)
      ),
)

-- where nothing is known of a test, what is still to come decides the answer that tells it
pub truth_undecided :
    (test : Matrix → Bool) (m : Matrix) (r : Option Bool) → IsKnown test m r →
    IfNone r (IsUndecided Answer (λ later. Truth (test later)) m)
truth_undecided test m (Some w) known = tt
truth_undecided test m None known =
    record {
      one = known.one;
      other = known.other;
      one_later = known.one_later;
      other_later = known.other_later;
      differ = λ same. known.differ (let e : test known.one ≡ test known.other = cc in e);
    }

-- and then the query is open
pub truth_open :
    (query : Query) (a b : Dim) (m : Matrix) (r : Option Bool) → IfNone r (IsUndecided Answer (value_of query a b) m) →
    IfNone r (IsOpenAt query a b m)
truth_open query a b m (Some w) open_now = tt
truth_open query a b m None open_now = undecided open_now

-- no value
abbrev nothing : Option Bool
nothing = None

-- a matrix is no truth, so nothing is known of the query for it
pub matrix_unknown :
    (m : Matrix) (v : Bool) → (nothing ≡ Some v) ↔ ((later : Matrix) → IsAtLeast later m → Im later ≡ Truth v)
matrix_unknown m v = (λ e. cc, λ h. (let e : Im m ≡ Truth v = h m (itself m) in cc))

-- an open query is settled at no value
pub open-unsettled : (p : Progress) → IsOpen p → (v : Bool) → ¬ IsSettled p v
open-unsettled p (asks_matrix e) v settled =
    let matrix : value_of p.query p.dim_a p.dim_b p.matrix ≡ Im p.matrix =
    ap (λ (q : Query). value_of q p.dim_a p.dim_b p.matrix) e in
    let clash : Im p.matrix ≡ Truth v = sym matrix ∙ settled p.matrix (itself p.matrix) in
    cc
open-unsettled p (undecided u) v settled =
    u.differ (settled u.one u.one_later ∙ sym (settled u.other u.other_later))

-- nothing is known of an open query
pub known-none :
    (p : Progress) (r : Option Bool) → ((v : Bool) → (r ≡ Some v) ↔ IsSettled p v) → IsOpen p → r ≡ None
known-none p None known open_now = refl
known-none p (Some w) known open_now = absurd (open-unsettled p open_now w ((known w).0 refl))

-- nothing is known of the query for the matrix
pub known-relate :
    (p : Progress) (r : Option Bool) → ((v : Bool) → (r ≡ Some v) ↔ IsSettled p v) → query_of p ≡ Relate → r ≡ None
known-relate p r known e = known-none p r known (asks_matrix e)
