-- What follows from the limit on coordinates. All sizes of the crate are these numbers, so the limit is raised by changing them.
use Rattle.std.specs.Prelude.{ℕ}

-- The greatest size of a coordinate.
abbrev pub limit : ℕ
limit = 1048575

-- The greatest difference of two coordinates.
abbrev pub spread : ℕ
spread = 2097150

-- The greatest size of a turn of three positions: two products of differences.
abbrev pub widest : ℕ
widest = 8796076245000

-- The weight of a node is below 2^44, which is more than twice the widest turn.
abbrev pub heaviest : ℕ
heaviest = 17592186044416

-- The greatest size of a part of a direction: 2^23.
abbrev pub farthest : ℕ
farthest = 8388608

-- The greatest size of a numerator of a node: the limit times the weight's bound. It is below 2^64.
abbrev pub largest : ℕ
largest = 18446726481523507200

-- The greatest distance of a node from a coordinate, times the node's weight. It is below 2^65.
abbrev pub longest : ℕ
longest = 36893452963047014400

-- The greatest number of positions of one figure, and so of its edges.
abbrev pub most_positions : ℕ
most_positions = 1048576
