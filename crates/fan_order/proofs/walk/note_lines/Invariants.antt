use Rattle.std.proofs.Common.{◌≡◌, ◌↔◌, ℕ, IsTrue, false, length, take}
use Rattle.std.specs.Prelude.{slice_index_or}
use Rattle.plane_exact.specs.declared.dir.Dir.{Dir}
use Rattle.point_set.specs.Validity.{IsAtPlace}
use Rattle.fan_order.specs.Sections.{IsLineAlong}
use Rattle.fan_order.proofs.walk.note_lines.Given as goal

abbrev pub invariant-loop-section : goal.invariant-loop-section
invariant-loop-section l = record {
  long : length l.lines ≡ length l.rays;
  lines : (i : ℕ) (ray : Dir) → IsAtPlace l.rays i ray
      → (IsTrue (slice_index_or l.lines i false) ↔ IsLineAlong l.which (take l.section-index l.sections) ray);
}
