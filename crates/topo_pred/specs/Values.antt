-- Queries, their values, and a query in progress.
use Rattle.std.specs.Prelude.{◌≡◌, ◌≢◌, Bool, List, [], ◌∷◌}
use Rattle.im_matrix.specs.declared.Cell.{Cell}
use Rattle.im_matrix.specs.declared.Dim.{Dim}
use Rattle.im_matrix.specs.declared.Matrix.{Matrix}
use Rattle.im_matrix.specs.Cells.{greater, dimension_at}
use Rattle.im_matrix.specs.Patterns.{text_matches, pattern_text}
use Rattle.im_matrix.specs.Names.{name_value}
use Rattle.topo_pred.specs.declared.Query.{Query}
use Rattle.topo_pred.specs.declared.Query.TheVariants.{Relate, Named, Match}
use Rattle.topo_pred.specs.declared.Answer.{Answer}
use Rattle.topo_pred.specs.declared.Answer.TheVariants.{Im, Truth}
use Rattle.topo_pred.specs.declared.Progress.{Progress}
use Rattle.topo_pred.specs.Later.{IsAtLeast, IsUndecided}

-- the value of a query on a matrix: the matrix itself, or whether the name or the pattern fits it
abbrev pub value_of : Query → Dim → Dim → Matrix → Answer
value_of Relate a b m = Im m
value_of (Named name) a b m = Truth (name_value name a b m)
value_of (Match pattern) a b m = Truth (text_matches (pattern_text pattern) m)

-- the query that is asked
abbrev pub query_of : Progress → Query
query_of p = p.query

-- the matrix as far as it is known
abbrev pub matrix_of : Progress → Matrix
matrix_of p = p.matrix

-- the value of the query that is asked, on a matrix
abbrev pub value_at : Progress → Matrix → Answer
value_at p m = value_of p.query p.dim_a p.dim_b m

-- whatever is still to come, the value is this one
abbrev pub IsSettled : Progress → Bool → Type 0
IsSettled p v = (later : Matrix) → IsAtLeast later (matrix_of p) → value_at p later ≡ Truth v

-- the query is open: it asks for the matrix, or two matrices that are at least this one give it different values
pub data IsOpenAt (query : Query) (a b : Dim) (m : Matrix) : Type 0 where
  asks_matrix : query ≡ Relate → IsOpenAt query a b m
  undecided : IsUndecided Answer (value_of query a b) m → IsOpenAt query a b m

-- the query that is asked is open
abbrev pub IsOpen : Progress → Type 0
IsOpen p = IsOpenAt p.query p.dim_a p.dim_b p.matrix

-- the new matrix has this cell raised to the dimension, and every other cell as before
pub record IsRaised (old new : Matrix) (c : Cell) (d : Dim) : Type 0 where
  pub raised : dimension_at new c ≡ greater (dimension_at old c) d
  pub others : (other : Cell) → other ≢ c → dimension_at new other ≡ dimension_at old other

-- one feed: a cell and a dimension
abbrev pub Feed : Type 0
Feed = Cell × Dim

-- the matrix after a list of feeds
abbrev pub IsFed : Matrix → List Feed → Matrix → Type 0
IsFed m [] final = final ≡ m
IsFed m (f ∷ fs) final = (next : Matrix) × IsRaised m next f.0 f.1 × IsFed next fs final

-- a value that is known is that of the final matrix, whatever the feeds that are left
abbrev pub KnownIsFinal : Type 0
KnownIsFinal =
    (p : Progress) (v : Bool) → IsSettled p v → (feeds : List Feed) (final : Matrix)
    → IsFed (matrix_of p) feeds final → value_at p final ≡ Truth v
