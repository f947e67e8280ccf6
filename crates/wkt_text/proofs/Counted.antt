-- There are never more groups than areas, nor more areas than positions.
use Rattle.std.proofs.Common.{◌≡◌, ℕ, ◌+◌, ◌<◌, ◌≤◌, ℤ, nat_lt, Option, Some, None, Ok, List, [], ◌∷◌, length, refl, subst, arith}
use Rattle.std.proofs.lemmas.Bool.{ltb-true, ltb-false}
use Rattle.std.proofs.lemmas.List.{length_push}
use Rattle.plane_exact.specs.declared.point.Pt.{Pt}
use Rattle.point_set.specs.declared.figure.Area.{Area}
use Rattle.wkt_text.specs.declared.token.Token.{Token}
use Rattle.wkt_text.specs.declared.state.Role.{Role}
use Rattle.wkt_text.specs.declared.state.Role.TheVariants as role
use Rattle.wkt_text.specs.declared.build.Build.{Build}
use Rattle.wkt_text.proofs.Moves.{Move, tokens_in}
use Rattle.plane_exact.specs.Limits.{most_positions}
use Rattle.wkt_text.specs.Rules.{drop_fault, ends_meet, line_fault, ring_fault}
use Rattle.wkt_text.specs.Building.{IsCounted, begun, shells, act_by, start_build, with_x, with_point, with_position, with_line, with_shell}
use Rattle.wkt_text.specs.Building.{with_hole, with_area}
use Rattle.wkt_text.proofs.Keeping.{Holds, AllTokens, holds_if, holds_value, holds_unless, ring_tests, kept_along}
use Rattle.wkt_text.proofs.Courses.{builds}
use Rattle.wkt_text.proofs.Groups.{last_push}

counted_start : IsCounted start_build
counted_start = record { group = omega arith; next = omega arith; areas = omega arith; most = omega arith }

counted_x : (b : Build) (z : ℤ) → IsCounted b → b.count < most_positions → IsCounted (with_x b z)
counted_x b z h c = record { group = h.group; next = h.next; areas = omega (arith, h.areas); most = omega arith }

-- With a position that was begun, and with one that wasn't.
AreasWith : Build → ℕ → Type 0
AreasWith b n = ((length b.figure.areas + shells b.shell) + length b.way) + n ≤ b.count

areas_with : (b : Build) (o : Option ℤ) → b.x ≡ o → IsCounted b → AreasWith b (begun o)
unfolding AreasWith
areas_with b o e h = subst (λ o. AreasWith b (begun o)) e h.areas

counted_point : (b : Build) (o : Option ℤ) (z : ℤ) → b.x ≡ o → IsCounted b → IsCounted (with_point b o z)
unfolding AreasWith
counted_point b None z e h = h
counted_point b (Some x) z e h =
    let areas = areas_with b (Some x) e h in
    record { group = h.group; next = h.next; areas = omega (arith, areas); most = h.most }

counted_position : (b : Build) (o : Option ℤ) (z : ℤ) → b.x ≡ o → IsCounted b → IsCounted (with_position b o z)
unfolding AreasWith
counted_position b None z e h = h
counted_position b (Some x) z e h =
    let areas = areas_with b (Some x) e h in
    record {
      group = h.group;
      next = h.next;
      areas = rw (length_push b.way (record { x = x; y = z })) (omega (arith, areas));
      most = h.most;
    }

counted_shell : (b : Build) → ring_fault b.way ≡ None → IsCounted b → IsCounted (with_shell b)
counted_shell b e h =
    let long = ltb-false (length b.way) 4 (ring_tests (nat_lt (length b.way) 4) (ends_meet b.way) e).0 in
    record { group = h.group; next = h.next; areas = omega (arith, h.areas, long); most = h.most }

counted_area : (b : Build) (o : Option (List Pt)) → b.shell ≡ o → IsCounted b → IsCounted (with_area b o)
counted_area b None e h = h
counted_area b (Some ring) e h =
    let more : Area = record { shell = ring; holes = b.holes; group = b.group } in
    let areas = subst (λ o. ((length b.figure.areas + shells o) + length b.way) + begun b.x ≤ b.count) e h.areas in
    record {
      group = rw (length_push b.figure.areas more) (omega (arith, h.group));
      next = rw (last_push b.figure.areas more, length_push b.figure.areas more) (omega (arith, h.group));
      areas = rw (length_push b.figure.areas more) (omega (arith, areas));
      most = h.most;
    }

counted_by : (b : Build) (r : Role) (t : Token) → IsCounted b → Unit {0} → Holds IsCounted (act_by b r t)
counted_by b role.Head t h u = h
counted_by b role.Deep t h u = tt
counted_by b role.Mark t h u = h
counted_by b role.Group t h u = record { group = h.next; next = h.next; areas = h.areas; most = h.most }
counted_by b role.X t h u =
    holds_if IsCounted (nat_lt b.count most_positions) _ _
    (λ e. holds_value IsCounted t (with_x b) (λ z f. counted_x b z h (ltb-true b.count most_positions e))) (λ e. tt)
counted_by b role.PointY t h u = holds_value IsCounted t (with_point b b.x) (λ z e. counted_point b b.x z refl h)
counted_by b role.WayY t h u = holds_value IsCounted t (with_position b b.x) (λ z e. counted_position b b.x z refl h)
counted_by b role.Demanded t h u = holds_unless IsCounted (drop_fault t) b (λ e. h)
counted_by b role.Further t h u = holds_unless IsCounted (drop_fault t) b (λ e. h)
counted_by b role.EndLine t h u = holds_unless IsCounted (line_fault b.way) (with_line b)
    (λ e. record { group = h.group; next = h.next; areas = omega (arith, h.areas); most = h.most })
counted_by b role.EndShell t h u = holds_unless IsCounted (ring_fault b.way) (with_shell b) (λ e. counted_shell b e h)
counted_by b role.EndHole t h u = holds_unless IsCounted (ring_fault b.way) (with_hole b)
    (λ e. record { group = h.group; next = h.next; areas = omega (arith, h.areas); most = h.most })
counted_by b role.EndArea t h u = counted_area b b.shell refl h

any_tokens : (ts : List Token) → AllTokens (λ t. Unit {0}) ts
any_tokens [] = tt
any_tokens (t ∷ ts) = (tt, any_tokens ts)

-- What tokens build is counted.
pub built_counted : (moves : List Move) (b : Build) → builds start_build moves ≡ Ok b → IsCounted b
built_counted moves b e = kept_along IsCounted (λ t. Unit {0}) counted_by moves start_build b counted_start (any_tokens (tokens_in moves)) e
