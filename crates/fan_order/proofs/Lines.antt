-- The rays along which lines run, noted section by section.
use Rattle.std.proofs.Common.{◌≡◌, ◌⊎◌, inl, inr, ◌↔◌, ℕ, ◌+◌, ◌<◌, Bool, true, false, IsTrue, List, [], ◌∷◌, ◌++◌, length}
use Rattle.std.proofs.Common.{get_or, set, take}
use Rattle.std.proofs.Common.{ap, refl, sym, ◌∙◌, subst, arith, get_or-set_same, get_or-set_other}
use Rattle.std.specs.Prelude.{slice_index_or}
use Rattle.std.specs.List.{Contains}
use Rattle.std.proofs.lemmas.Bool.{cases_eq}
use Rattle.std.proofs.lemmas.List.{take_more}
use Rattle.std.proofs.lemmas.List.Elements.{Contains-append_left, Contains-append_right, Contains-append_cases}
use Rattle.std.proofs.lemmas.Option.{slice_get_within}
use Rattle.im_matrix.specs.declared.Which.{Which}
use Rattle.plane_exact.specs.Orders.{IsSameDirection}
use Rattle.plane_exact.specs.declared.dir.Dir.{Dir}
use Rattle.point_set.specs.declared.edge.Hand.TheVariants as hand
use Rattle.point_set.specs.Validity.{IsAtPlace}
use Rattle.fan_order.specs.declared.section.Section.{Section}
use Rattle.fan_order.specs.Rays.{IsRayPlace}
use Rattle.fan_order.specs.Sections.{IsLineAlong}
use Rattle.fan_order.proofs.PassLists.{only_item}
use Rattle.fan_order.proofs.Places.{Ascend, one_place, same_ray}

-- a line of one section runs along a ray
of_one : (which : Which) (s : Section) (ray : Dir) → IsLineAlong which (s ∷ []) ray
    → (s.which ≡ which) × (s.hand ≡ hand.Line) × IsSameDirection s.dir ray
of_one which s ray l =
    let e = sym (only_item s l.s l.there) in (
      subst (λ (t : Section). t.which ≡ which) e l.which_is,
      subst (λ (t : Section). t.hand ≡ hand.Line) e l.of_line,
      subst (λ (t : Section). IsSameDirection t.dir ray) e l.along,
    )

-- a section of a line is noted at the place of its ray
pub noted : (which : Which) (rays : List Dir) (s : Section) → Ascend rays → s.which ≡ which → s.hand ≡ hand.Line → (place : ℕ)
    → IsRayPlace rays s.dir place → (old : List Bool) → length old ≡ length rays → (i : ℕ) (ray : Dir) → IsAtPlace rays i ray
    → (IsTrue (slice_index_or (set old place true) i false) ↔ (IsTrue (slice_index_or old i false) ⊎ IsLineAlong which (s ∷ []) ray))
noted which rays s up which_is of_line place is old long i ray ray_is = go (cases_eq i place)
  where
    Noted : Bool → Type 0
    Noted b = IsTrue b ↔ (IsTrue (slice_index_or old i false) ⊎ IsLineAlong which (s ∷ []) ray)

    go : (i ≡ place) ⊎ (i ≡ place → ⊥) → Noted (slice_index_or (set old place true) i false)
    go (inl same) =
        let below : place < length old = (let w = slice_get_within rays i ray ray_is in omega (arith, w, long, same)) in
        subst Noted
        (sym (ap (λ (p : ℕ). slice_index_or (set old place true) p false) same ∙ get_or-set_same old place true false below)) (
          λ _. inr (record {
            s = s;
            there = (0, omega arith, refl);
            which_is = which_is;
            of_line = of_line;
            along =
                subst (λ (r : Dir). IsSameDirection s.dir r)
                (same_ray rays place is.ray ray is.ray_is (subst (λ (p : ℕ). IsAtPlace rays p ray) same ray_is)) is.same;
          }),
          λ _. refl,
        )
    go (inr not) = subst Noted (sym (get_or-set_other old place i true false not)) (inl, kept)
      where
        kept : IsTrue (slice_index_or old i false) ⊎ IsLineAlong which (s ∷ []) ray → IsTrue (slice_index_or old i false)
        kept (inl h) = h
        kept (inr l) =
            absurd (not (one_place rays up i place ray is.ray s.dir ray_is is.ray_is (of_one which s ray l).2 is.same))

-- another one isn't
pub not_noted : (which : Which) (s : Section) → ((s.which ≡ which) × (s.hand ≡ hand.Line) → ⊥) → (old : List Bool) (i : ℕ) (ray : Dir)
    → (IsTrue (slice_index_or old i false) ↔ (IsTrue (slice_index_or old i false) ⊎ IsLineAlong which (s ∷ []) ray))
not_noted which s not old i ray = (inl, kept)
  where
    kept : IsTrue (slice_index_or old i false) ⊎ IsLineAlong which (s ∷ []) ray → IsTrue (slice_index_or old i false)
    kept (inl h) = h
    kept (inr l) = let h = of_one which s ray l in absurd (not (h.0, h.1))

-- one section more
pub lines_more : (which : Which) (sections : List Section) (n : ℕ) (s : Section) (ray : Dir) (old new : Bool) → n < length sections
    → s ≡ get_or sections n s → (IsTrue old ↔ IsLineAlong which (take n sections) ray)
    → (IsTrue new ↔ (IsTrue old ⊎ IsLineAlong which (s ∷ []) ray))
    → (IsTrue new ↔ IsLineAlong which (take (n + 1) sections) ray)
lines_more which sections n s ray old new below is before more =
    subst (λ (ss : List Section). IsTrue new ↔ IsLineAlong which ss ray)
    (sym (take_more sections n s below ∙ ap (λ z. take n sections ++ z ∷ []) (sym is)))
    (λ h. fore (more.0 h), λ l. more.1 (back l (Contains-append_cases (take n sections) (s ∷ []) l.s l.there)))
  where
    fore : IsTrue old ⊎ IsLineAlong which (s ∷ []) ray → IsLineAlong which (take n sections ++ s ∷ []) ray
    fore (inl h) =
        let l = before.0 h in
        record {
          s = l.s;
          there = Contains-append_left (take n sections) (s ∷ []) l.s l.there;
          which_is = l.which_is;
          of_line = l.of_line;
          along = l.along;
        }
    fore (inr l) = record {
      s = l.s;
      there = Contains-append_right (take n sections) (s ∷ []) l.s l.there;
      which_is = l.which_is;
      of_line = l.of_line;
      along = l.along;
    }

    back : (l : IsLineAlong which (take n sections ++ s ∷ []) ray) → Contains (take n sections) l.s ⊎ Contains (s ∷ []) l.s
        → IsTrue old ⊎ IsLineAlong which (s ∷ []) ray
    back l (inl there) =
        inl (before.1 (record { s = l.s; there = there; which_is = l.which_is; of_line = l.of_line; along = l.along }))
    back l (inr there) = inr (record { s = l.s; there = there; which_is = l.which_is; of_line = l.of_line; along = l.along })
