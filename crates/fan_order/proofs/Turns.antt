-- What the two turns round the rays find is what the hands say of the sectors.
use Rattle.std.proofs.Common.{◌≡◌, ◌↔◌, ℕ, ◌+◌, ◌*◌, ◌<◌, Bool, false, IsTrue, List, length, length-append, sym, subst, arith}
use Rattle.std.proofs.Common.{Result, Ok, Err}
use Rattle.std.specs.Prelude.{slice_index_or, IfOk}
use Rattle.std.specs.List.Sorted.{IsSorted}
use Rattle.im_matrix.specs.declared.Which.{Which}
use Rattle.plane_exact.specs.declared.dir.Dir.{Dir}
use Rattle.fan_order.specs.declared.pass.Pass.{Pass}
use Rattle.fan_order.specs.declared.section.Section.{Section}
use Rattle.fan_order.specs.Passes.{twice, ArePasses, AreReaches, IsReachedOver, IsOpenAt, IsOpened}
use Rattle.fan_order.specs.Sections.{IsSectorInside, AreHandsAlike, AreSided}
use Rattle.fan_order.proofs.PassLists.{compare_passes, in_order}
use Rattle.fan_order.proofs.Passes.{inside_by_passes}

-- what holds of the value of an answer follows from what is known of it
pub flags_then : {T E : Type 0} (r : Result T E) {P Q : T → Type 0} → IfOk r P → ((x : T) → P x → Q x) → IfOk r Q
flags_then (Ok x) h then = then x h
flags_then (Err e) h then = h

-- a place of the way is reached over exactly where some area is open there
open_by_reach : (passes : List Pass) (end place : ℕ) (reach : List ℕ) → length reach ≡ end → AreReaches passes reach → place < end
    → (IsReachedOver reach place ↔ IsOpenAt passes end place)
open_by_reach passes end place reach long are below = (open_, reached)
  where
    open_ : IsReachedOver reach place → IsOpenAt passes end place
    open_ r =
        let low = r.before in
        let o = (are r.start place (omega (arith, low, below, long))).0 r.far in
        record { i = o.0; start = r.start; before = r.before; opened = subst (λ (e : ℕ). IsOpened passes e o.0 r.start place) long o.1 }

    reached : IsOpenAt passes end place → IsReachedOver reach place
    reached o = record {
      start = o.start;
      before = o.before;
      far =
          let low = o.before in
          (are o.start place (omega (arith, low, below, long))).1
          (o.i, subst (λ (e : ℕ). IsOpened passes e o.i o.start place) (sym long) o.opened);
    }

-- the flags of the second turn say which sectors are inside an area
pub inside_by_flags : (which : Which) (sections : List Section) → AreHandsAlike which sections → AreSided which sections
    → (rays : List Dir) (passes : List Pass) → ArePasses which (twice rays) sections passes → IsSorted compare_passes passes
    → (reach : List ℕ) → length reach ≡ 2 * length rays → AreReaches passes reach → (flags : List Bool)
    → ((place : ℕ) → place < length reach → (IsTrue (slice_index_or flags place false) ↔ IsReachedOver reach place)) → (i : ℕ)
    → i < length rays → (IsTrue (slice_index_or flags (length rays + i) false) ↔ IsSectorInside which sections rays i)
inside_by_flags which sections alike sided rays passes are sorted reach long reaches flags flagged i below = (
  λ t. by_passes.0 (by_reach.0 (by_flag.0 t)),
  λ h. by_flag.1 (by_reach.1 (by_passes.1 h)),
)
  where
    x : ℕ
    x = length rays + i

    end : length reach ≡ length (twice rays)
    end = omega (arith, long, length-append rays rays)

    by_flag : IsTrue (slice_index_or flags (length rays + i) false) ↔ IsReachedOver reach (length rays + i)
    by_flag = flagged (length rays + i) (omega (arith, long, below))

    by_reach : IsReachedOver reach (length rays + i) ↔ IsOpenAt passes (length (twice rays)) (length rays + i)
    by_reach =
        open_by_reach passes (length (twice rays)) (length rays + i) reach end reaches (omega (arith, below, length-append rays rays))

    by_passes : IsOpenAt passes (length (twice rays)) (length rays + i) ↔ IsSectorInside which sections rays i
    by_passes = inside_by_passes which sections alike sided rays passes are (in_order passes sorted) i below
