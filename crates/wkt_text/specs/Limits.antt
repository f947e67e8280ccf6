-- The limits of a text. The greatest size of a coordinate is `limit` of plane_exact, and the most positions of a geometry are its
-- `most_positions`.
use Rattle.std.specs.Prelude.{ℕ}

-- The most bytes that a number may have.
abbrev pub most_bytes : ℕ
most_bytes = 64

-- How deep collections may be nested.
abbrev pub most_depth : ℕ
most_depth = 32
