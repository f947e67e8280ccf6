-- The rules of the names, as tests of single cells.
use Rattle.std.proofs.Common.{◌≡◌, ◌≤◌, ℕ, Bool, true, false, arith}
use Rattle.std.proofs.lemmas.Bool.Decides.{nat_tests}
use Rattle.std.specs.Prelude.{◌&&◌, ◌||◌, not, nat_lt}

-- Covers: one of four cells, and none of two
pub four_and_two :
    (a b c d e f : Bool) →
    (a && (not e && (not f && true)))
    || ((b && (not e && (not f && true)))
    || ((c && (not e && (not f && true))) || ((d && (not e && (not f && true))) || false)))
    ≡ (a || b || c || d) && not (e || f)
four_and_two a b c d e f = grind arith

-- CoveredBy: one of four cells, and none of two, in the order of its patterns
pub two_and_four :
    (a b c d e f : Bool) →
    (a && (not e && (not f && true)))
    || ((b && (not e && (not f && true)))
    || ((not e && (c && (not f && true))) || ((not e && (d && (not f && true))) || false)))
    ≡ (a || b || c || d) && not (e || f)
two_and_four a b c d e f = grind arith

-- Contains and Within: one cell, and none of two
pub one_and_two : (a e f : Bool) → (a && (not e && (not f && true))) || false ≡ a && not (e || f)
one_and_two a e f = grind arith

-- Disjoint: none of four cells
pub none_of_four :
    (a b c d : Bool) → (not a && (not b && (not c && (not d && true)))) || false ≡ true && not (a || b || c || d)
none_of_four a b c d = grind arith

-- Touches: not the first of four cells, and one of the others
pub not_first :
    (a b c d : Bool) →
    (not a && (b && true)) || ((not a && (c && true)) || ((not a && (d && true)) || false)) ≡ (b || c || d) && not a
not_first a b c d = grind arith

-- Crosses: two cells
pub two_cells : (a b : Bool) → (a && (b && true)) || false ≡ a && b
two_cells a b = grind arith

-- Overlaps: three cells
pub three_cells : (a b c : Bool) → (a && (b && (c && true))) || false ≡ a && b && c
three_cells a b c = grind arith

-- Equals: none of four cells, two by two
pub none_of_two_and_two :
    (a b c d : Bool) → (not a && (not b && (not c && (not d && true)))) || false ≡ true && not ((a || b) || (c || d))
none_of_two_and_two a b c d = grind arith

-- ContainsProperly: one cell, and none of four
pub one_and_four :
    (a b c d e : Bool) →
    (a && (not b && (not c && (not d && (not e && true))))) || false ≡ a && not (b || c || (d || e))
one_and_four a b c d e = grind arith

-- what is above a bound stays above it
pub lt-later : (n x y : ℕ) → x ≤ y → nat_lt n x ≡ true → nat_lt n y ≡ true
lt-later n x y h k = grind (arith, nat_tests)

-- one of two tests, where each stays true
pub or-later : (a b c d : Bool) → (a ≡ true → c ≡ true) → (b ≡ true → d ≡ true) → a || b ≡ true → c || d ≡ true
or-later a b c d f g h = grind arith

-- both of two tests, where each stays true
pub and-later : (a b c d : Bool) → (a ≡ true → c ≡ true) → (b ≡ true → d ≡ true) → a && b ≡ true → c && d ≡ true
and-later a b c d f g h = grind arith

-- both of two tests are worth both of two others, where each hands its value on
pub and-alike : (v a b c d : Bool) → (a ≡ v → c ≡ v) → (b ≡ v → d ≡ v) → a && b ≡ v → c && d ≡ v
and-alike v a b c d f g h = grind arith

-- one of two tests is worth the contrary of both of two others, where each is that of the other
pub or-against : (v a b c d : Bool) → (a ≡ v → c ≡ not v) → (b ≡ v → d ≡ not v) → a || b ≡ v → c && d ≡ not v
or-against v a b c d f g h = grind arith

-- the second of two tests is true, and is to be false
pub and_not_false : (a b : Bool) → b ≡ true → a && not b ≡ false
and_not_false a b h = grind arith

-- a test that is passed and one that isn't
pub and_not_true : (a b : Bool) → a ≡ true → b ≡ false → a && not b ≡ true
and_not_true a b h k = grind arith
