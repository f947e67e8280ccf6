use Rattle.std.proofs.Common.{◌≡◌, ◌&&◌, int_le, ℤ, sym, ◌∙◌, to_z, of_z, w64, arith}
use Rattle.std.proofs.lemmas.Int.{ints, clamps}
use Rattle.relate_core.proofs.far.is_within.Goals as goal

-- the test of a range, by other names of its numbers
range_same :
    {a b c d e f g h : ℤ} → a ≡ e → b ≡ f → c ≡ g → d ≡ h → (int_le a b && int_le c d) ≡ (int_le e f && int_le g h)
range_same p q r s = λ i. int_le (p i) (q i) && int_le (r i) (s i)

pub returns-then-is_range_within : goal.returns-then-is_range_within
returns-then-is_range_within c =
    let inner = c.args.inner.now in
    let outer = c.args.outer.now in
    let low_x : to_z w64 (of_z w64 inner.low_x) ≡ inner.low_x = omega (arith, ints, clamps) in
    let high_x : to_z w64 (of_z w64 inner.high_x) ≡ inner.high_x = omega (arith, ints, clamps) in
    let least_x : to_z w64 (of_z w64 outer.low_x) ≡ outer.low_x = omega (arith, ints, clamps) in
    let most_x : to_z w64 (of_z w64 outer.high_x) ≡ outer.high_x = omega (arith, ints, clamps) in
    let low_y : to_z w64 (of_z w64 inner.low_y) ≡ inner.low_y = omega (arith, ints, clamps) in
    let high_y : to_z w64 (of_z w64 inner.high_y) ≡ inner.high_y = omega (arith, ints, clamps) in
    let least_y : to_z w64 (of_z w64 outer.low_y) ≡ outer.low_y = omega (arith, ints, clamps) in
    let most_y : to_z w64 (of_z w64 outer.high_y) ≡ outer.high_y = omega (arith, ints, clamps) in
    let across = sym (range_same least_x low_x high_x most_x) ∙ sym c.is_range_within.ensures.within ∙ c.if-is_range_within.true in
    let above = c.is_range_within-then-is_range_within.ensures.within ∙ range_same least_y low_y high_y most_y in
    record {
      within = above ∙ (λ i. sym across i && (int_le outer.low_y inner.low_y && int_le inner.high_y outer.high_y));
    }
