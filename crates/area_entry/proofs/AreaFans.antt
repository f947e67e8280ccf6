-- The fan of the rows of a clean area at one of its points: a sector that its hands say to be inside is inside, and any other one is
-- outside.
use Rattle.std.proofs.Common.{◌≡◌, ◌⊎◌, inl, inr, ℕ, ◌+◌, ◌%◌, ◌<◌, ◌-ℤ◌, Bool, true, false, IsTrue, ◌↔◌, Some, List, [], ◌∷◌, ◌++◌, length}
use Rattle.std.proofs.Common.{take, ap, refl, sym, ◌∙◌, subst, arith}
use Rattle.std.specs.List.{Any, Contains}
use Rattle.std.proofs.Math.Nat.{mod-lt}
use Rattle.std.proofs.lemmas.Bool.{true≢false}
use Rattle.std.proofs.lemmas.List.{take_more}
use Rattle.std.proofs.lemmas.List.Elements.{All-contains}
use Rattle.std.proofs.lemmas.Option.{slice_get_within, get_or_from_slice_get}
use Rattle.im_matrix.specs.declared.Loc.TheVariants.{Interior, Exterior}
use Rattle.im_matrix.specs.declared.Which.TheVariants.{A}
use Rattle.plane_laws.proofs.Directions.Angles.{joined_ways}
use Rattle.plane_laws.proofs.Points.Same.{same_sym}
use Rattle.plane_laws.proofs.Segments.Mixes.{segment_flip}
use Rattle.plane_laws.specs.Along.{IsInCone}
use Rattle.plane_laws.specs.Directions.{Direction, PointSameWay}
use Rattle.plane_laws.specs.Plane.{Point, IsSamePoint}
use Rattle.plane_exact.specs.Orders.{direction_of, IsSameDirection}
use Rattle.plane_exact.specs.Places.{point_of}
use Rattle.plane_exact.specs.declared.dir.Dir.{Dir}
use Rattle.plane_exact.specs.declared.point.Seg.{Seg}
use Rattle.point_set.specs.declared.edge.Edge.{Edge}
use Rattle.point_set.specs.declared.edge.Hand.{Hand}
use Rattle.point_set.specs.declared.edge.Hand.TheVariants as hand
use Rattle.point_set.specs.declared.figure.Area.{Area}
use Rattle.point_set.specs.Edges.{IsAreaHand, area_of, far_end, hand_of_way}
use Rattle.point_set.specs.Germ.{IsGerm}
use Rattle.point_set.specs.Rings.{is_on_edges}
use Rattle.point_set.specs.Sectors.{AreRaysAt, IsInSector}
use Rattle.point_set.specs.Validity.{IsAtPlace, IsOnEdge}
use Rattle.figure_laws.proofs.Lists.Places.{all_at, some_same}
use Rattle.ring_laws.proofs.Germs.Areas.{germ_one}
use Rattle.ring_laws.proofs.Germs.Edges.{on_true}
use Rattle.germ_laws.proofs.Rays.Neighbours.{within_sector, IsBetween, within_from, between_rays}
use Rattle.germ_laws.proofs.Rays.Places.{item_at}
use Rattle.germ_laws.proofs.Rays.Ways.{one_way, way_cone, HasRay, any_ray}
use Rattle.germ_laws.proofs.Room.Starry.{not_here}
use Rattle.germ_laws.proofs.Room.Ways.{cone_way}
use Rattle.germ_laws.proofs.Sectors.Rays.{none_within, turned_way}
use Rattle.fan_order.specs.declared.section.Section.{Section}
use Rattle.fan_order.specs.Rays.{AreRaysOf, IsRayOf}
use Rattle.fan_order.specs.Sections.{IsSectionOfEdge, IsStep, IsWalk, IsSectorInside, AreHandsAlike, AreSided}
use Rattle.fan_order.proofs.Laws.{walk_exists, walk_parts}
use Rattle.fan_laws.proofs.Fans.Added.{twice_other}
use Rattle.fan_laws.proofs.Fans.Hands.{line_hand, HasEdge, edge_that_holds, HasAway, away_end}
use Rattle.fan_laws.proofs.Fans.Rays.{ray_of_section}
use Rattle.valid_laws.specs.Entering.{edges_in, IsClean}
use Rattle.valid_laws.proofs.Edges.Moving.{moving}
use Rattle.valid_laws.proofs.Hands.AfterWay.{hand_after_way, runs_toward}
use Rattle.area_entry.specs.Entries.{IsFree}
use Rattle.area_entry.specs.Grounds.{AreRowsOf}
use Rattle.area_entry.specs.RowSections.{AreOfOneArea, AreSectionsOfRows}
use Rattle.area_entry.proofs.RowPlaces.{row_there, HasRow, row_of_edge}
use Rattle.area_entry.proofs.SectionLists.{IsOfRow, rows_only, rows_whole}

-- the end towards which a section leads lies in its direction
end_ahead : (e : Seg) (v : Point) → IsOnEdge e v → (forward : Bool) → ¬ IsSamePoint (point_of (far_end forward e)) v → (row : Edge)
    → row.seg ≡ e → (s : Section) → IsSectionOfEdge A row forward s
    → IsInCone v (direction_of s.dir) (direction_of s.dir) (point_of (far_end forward e))
end_ahead e v on true away row same s toward =
    way_cone e.a e.b v on away (direction_of s.dir) (toward.across ∙ ap (λ (g : Seg). g.b.x -ℤ g.a.x) same)
    (toward.above ∙ ap (λ (g : Seg). g.b.y -ℤ g.a.y) same)
end_ahead e v on false away row same s toward =
    way_cone e.b e.a v (segment_flip on) away (direction_of s.dir) (toward.across ∙ ap (λ (g : Seg). g.a.x -ℤ g.b.x) same)
    (toward.above ∙ ap (λ (g : Seg). g.a.y -ℤ g.b.y) same)

module _ (area : Area) (clean : IsClean area) (rows : List Edge) (are_rows : AreRowsOf area rows) (one : AreOfOneArea rows) (v : Point)
    (sections : List Section) (are : AreSectionsOfRows v rows sections) (rays : List Dir) (are_rays : AreRaysOf sections rays) where
  -- ---- the sections
  -- each is that of a row
  of_row : (s : Section) → Contains sections s → IsOfRow v rows s
  of_row s there = All-contains (IsOfRow v rows) sections s (rows_only v rows sections are) there

  -- its area is the one area
  area_is : (s : Section) → Contains sections s → s.area ≡ Some one.place
  area_is s there =
      let x = of_row s there in
      x.toward.area_is ∙ all_at (λ row. area_of row.owner ≡ Some one.place) rows x.place x.row one.owned x.row_is

  -- its hand is that of its edge on its way
  side : (s : Section) (there : Contains sections s)
      → IsAreaHand area (of_row s there).row.seg (hand_of_way (of_row s there).forward s.hand)
  side s there =
      let x = of_row s there in
      subst (λ (z : Hand). IsAreaHand area x.row.seg z)
      (sym (ap (hand_of_way x.forward) x.toward.hand_is ∙ twice_other x.forward x.row.hand))
      (all_at (λ row. IsAreaHand area row.seg row.hand) rows x.place x.row are_rows.hands x.row_is)

  -- and isn't Line
  sided : AreSided A sections
  sided = record {
    sided = λ s there which_is k k_is line.
        let x = of_row s there in (side s there).sided (line_hand x.forward s.hand line);
  }

  -- ---- the rays
  -- they are those of the area's edges
  area_rays : AreRaysAt v (edges_in area) rays
  area_rays = record { ascending = are_rays.ascending; whole = λ place e e_is on t ends. by_end place e e_is (on_true on) t ends }
    where
      toward : (place : ℕ) (e : Seg) → IsAtPlace (edges_in area) place e → IsOnEdge e v → (t : Direction) → (forward : Bool)
          → IsInCone v t t (point_of (far_end forward e)) → Any (λ ray. PointSameWay t (direction_of ray)) rays
      toward place e e_is on t forward c =
          let away : ¬ IsSamePoint (point_of (far_end forward e)) v = λ alike. not_here c (same_sym alike) in
          let r = row_of_edge area rows are_rows place e e_is in
          let a =
          rows_whole v rows sections are place r.row r.is (subst (λ (g : Seg). IsOnEdge g v) (sym r.same) on) forward
          (subst (λ (g : Seg). ¬ IsSamePoint (point_of (far_end forward g)) v) (sym r.same) away) in
          let k = end_ahead e v on forward away r.row r.same a.1 a.4 in
          any_ray rays t (direction_of a.1.dir) (one_way v t (direction_of a.1.dir) (point_of (far_end forward e)) c k)
          (ray_of_section sections rays are_rays a.1 (a.0, a.2, a.3))

      by_end : (place : ℕ) (e : Seg) → IsAtPlace (edges_in area) place e → IsOnEdge e v → (t : Direction)
          → IsInCone v t t (point_of e.a) ⊎ IsInCone v t t (point_of e.b) → Any (λ ray. PointSameWay t (direction_of ray)) rays
      by_end place e e_is on t (inl c) = toward place e e_is on t false c
      by_end place e e_is on t (inr c) = toward place e e_is on t true c

  -- a section's end lies along each ray that points its way
  ahead : (s : Section) (there : Contains sections s) (ray : Dir) → IsSameDirection s.dir ray
      → IsInCone v (direction_of ray) (direction_of ray) (point_of (far_end (of_row s there).forward (of_row s there).row.seg))
  ahead s there ray along =
      let x = of_row s there in
      cone_way along (end_ahead x.row.seg v x.on x.forward x.away x.row refl s x.toward)

  -- a ray has a section
  record HasSection (ray : Dir) : Type 0 where
    s : Section
    there : Contains sections s
    along : IsSameDirection s.dir ray

  section_along : (i : ℕ) (ray : Dir) → IsAtPlace rays i ray → HasSection ray
  section_along i ray ray_is =
      let a = all_at (λ ray. Any (λ s. IsRayOf s.dir ray) sections) rays i ray are_rays.only ray_is in
      record { s = a.1; there = (a.0, a.2, a.3); along = a.4.same }

  -- ---- the germs beside the rays
  -- in the sector after a section's ray its hand decides
  hand_after : (s : Section) → Contains sections s → (i : ℕ) (ray : Dir) → IsAtPlace rays i ray → IsSameDirection s.dir ray
      → (d : Direction) → IsBetween rays i d
      → (s.hand ≡ hand.Left → IsGerm area v d Interior) × (s.hand ≡ hand.Right → IsGerm area v d Exterior)
  hand_after s there i ray ray_is along d b =
      let x = of_row s there in
      hand_after_way area clean x.place x.row.seg (row_there area rows are_rows x.place x.row x.row_is) x.forward v x.on (direction_of ray)
      (ahead s there ray along) s.hand (side s there) (direction_of b.next)
      (none_within area v rays area_rays i ray b.next ray_is b.next_is) d (within_from rays i ray b.next ray_is b.next_is d b)

  -- so two sections along one ray have one hand
  hands_alike : AreHandsAlike A sections
  hands_alike = record { alike = λ s t s_there t_there s_which t_which same way. by_ray s t s_there t_there way }
    where
      by_hands : (s t : Section) → Contains sections s → Contains sections t → (d : Direction)
          → (s.hand ≡ hand.Left → IsGerm area v d Interior) × (s.hand ≡ hand.Right → IsGerm area v d Exterior)
          → (t.hand ≡ hand.Left → IsGerm area v d Interior) × (t.hand ≡ hand.Right → IsGerm area v d Exterior)
          → (a b : Hand) → s.hand ≡ a → t.hand ≡ b → s.hand ≡ t.hand
      by_hands s t s_there t_there d h k hand.Left hand.Left e g = e ∙ sym g
      by_hands s t s_there t_there d h k hand.Right hand.Right e g = e ∙ sym g
      by_hands s t s_there t_there d h k hand.Left hand.Right e g =
          let z = germ_one area v d Interior Exterior (h.0 e) (k.1 g) in cc
      by_hands s t s_there t_there d h k hand.Right hand.Left e g =
          let z = germ_one area v d Interior Exterior (k.0 g) (h.1 e) in cc
      by_hands s t s_there t_there d h k hand.Line b e g =
          absurd (sided.sided s s_there (of_row s s_there).toward.which_is one.place (area_is s s_there) e)
      by_hands s t s_there t_there d h k a hand.Line e g =
          absurd (sided.sided t t_there (of_row t t_there).toward.which_is one.place (area_is t t_there) g)

      by_ray : (s t : Section) → Contains sections s → Contains sections t → IsSameDirection s.dir t.dir → s.hand ≡ t.hand
      by_ray s t s_there t_there way =
          let r = ray_of_section sections rays are_rays s s_there in
          let below = slice_get_within rays r.place r.ray r.is in
          let n = item_at rays ((r.place + 1) % length rays) (mod-lt (r.place + 1) (omega (arith, below))) in
          let w = within_sector (direction_of r.ray) (direction_of n.item) in
          let b : IsBetween rays r.place w.d = record { ray = r.ray; next = n.item; ray_is = r.is; next_is = n.is; within = w.within } in
          by_hands s t s_there t_there w.d (hand_after s s_there r.place r.ray r.is r.same w.d b)
          (hand_after t t_there r.place r.ray r.is (joined_ways (turned_way way) r.same) w.d b) s.hand t.hand refl refl

  -- ---- the walk round the rays
  -- its last step is that of the ray before the sector
  record HasLastStep (ray : Dir) (after : Bool) : Type 0 where
    before : Bool
    step : IsStep A one.place sections ray before after

  last_step : (i : ℕ) (ray : Dir) → IsAtPlace rays i ray → (after : Bool)
      → IsWalk A one.place sections (rays ++ take (i + 1) rays) false after → HasLastStep ray after
  last_step i ray ray_is after w =
      let below = slice_get_within rays i ray ray_is in
      let more : take (i + 1) rays ≡ take i rays ++ ray ∷ [] =
      take_more rays i ray below ∙ ap (λ z. take i rays ++ z ∷ []) (get_or_from_slice_get rays i ray ray ray_is) in
      let round = walk_parts A one.place sections rays (take (i + 1) rays) false after w in
      let on =
      walk_parts A one.place sections (take i rays) (ray ∷ []) round.0 after
      (subst (λ (xs : List Dir). IsWalk A one.place sections xs round.0 after) more round.2) in
      record { before = on.0; step = subst (λ b. IsStep A one.place sections ray on.0 b) on.2.2 on.2.1 }

  -- so the sector is inside exactly where the section along that ray has the area on its left
  inside_is_left : (i : ℕ) (ray : Dir) → IsAtPlace rays i ray → (s : HasSection ray) → IsSectorInside A sections rays i
      → s.s.hand ≡ hand.Left
  inside_is_left i ray ray_is s h = by_hand s.s.hand refl
    where
      same : h.area ≡ one.place
      same = some_same (sym h.area_is ∙ area_is h.s h.there)

      last : HasLastStep ray true
      last = last_step i ray ray_is true (subst (λ (k : ℕ). IsWalk A k sections (rays ++ take (i + 1) rays) false true) same h.walk)

      by_hand : (side : Hand) → s.s.hand ≡ side → s.s.hand ≡ hand.Left
      by_hand hand.Left e = e
      by_hand hand.Right e =
          absurd (true≢false
          (last.step.right s.s s.there (of_row s.s s.there).toward.which_is (area_is s.s s.there) s.along e))
      by_hand hand.Line e = absurd (sided.sided s.s s.there (of_row s.s s.there).toward.which_is one.place (area_is s.s s.there) e)

  left_is_inside : (i : ℕ) (ray : Dir) → IsAtPlace rays i ray → (s : HasSection ray) → s.s.hand ≡ hand.Left
      → IsSectorInside A sections rays i
  left_is_inside i ray ray_is s left =
      let w = walk_exists A one.place sections hands_alike sided (rays ++ take (i + 1) rays) false in
      let last = last_step i ray ray_is w.after w.walk in
      let on = last.step.left s.s s.there (of_row s.s s.there).toward.which_is (area_is s.s s.there) s.along left in
      record {
        area = one.place;
        s = s.s;
        there = s.there;
        which_is = (of_row s.s s.there).toward.which_is;
        area_is = area_is s.s s.there;
        walk = subst (λ b. IsWalk A one.place sections (rays ++ take (i + 1) rays) false b) on w.walk;
      }

  -- ---- the part along a direction
  -- a point of the area's edges has a ray
  some_ray : is_on_edges v (edges_in area) ≡ true → 0 < length rays
  some_ray on =
      let below = slice_get_within rays ray.place ray.ray ray.is in
      omega (arith, below)
    where
      edge : HasEdge (edges_in area) v
      edge = edge_that_holds (edges_in area) v on

      away : HasAway edge.e v
      away = away_end edge.e v (moving area edge.place edge.e edge.is)

      r : HasRow rows edge.place edge.e
      r = row_of_edge area rows are_rows edge.place edge.e edge.is

      section : Any (IsSectionOfEdge A r.row away.forward) sections
      section =
          rows_whole v rows sections are edge.place r.row r.is (subst (λ (g : Seg). IsOnEdge g v) (sym r.same) (on_true edge.on))
          away.forward
          (subst (λ (g : Seg). ¬ IsSamePoint (point_of (far_end away.forward g)) v) (sym r.same) away.away)

      ray : HasRay rays (direction_of section.1.dir)
      ray = ray_of_section sections rays are_rays section.1 (section.0, section.2, section.3)

  -- a direction along which no edge runs points along none of the rays
  off_rays : (d : Dir) → IsFree area v (direction_of d) → (i : ℕ) (ray : Dir) → IsAtPlace rays i ray → ¬ IsSameDirection ray d
  off_rays d free i ray ray_is same =
      let s = section_along i ray ray_is in
      let x = of_row s.s s.there in
      free x.place x.row.seg (row_there area rows are_rows x.place x.row x.row_is)
      (runs_toward x.forward x.row.seg v x.on (direction_of d) (ahead s.s s.there d (joined_ways s.along same)))

  -- in a sector the test by the hands says which part it is
  by_sector : (i : ℕ) → (d : Direction) → IsBetween rays i d → (b : Bool)
      → (AreHandsAlike A sections → AreSided A sections → (IsTrue b ↔ IsSectorInside A sections rays i))
      → (b ≡ true → IsGerm area v d Interior) × (b ≡ false → IsGerm area v d Exterior)
  by_sector i d between b decides = (λ e. ways.0 (inside_is_left i between.ray between.ray_is s (test.0 e)), λ e. by_hand e s.s.hand refl)
    where
      s : HasSection between.ray
      s = section_along i between.ray between.ray_is

      ways : (s.s.hand ≡ hand.Left → IsGerm area v d Interior) × (s.s.hand ≡ hand.Right → IsGerm area v d Exterior)
      ways = hand_after s.s s.there i between.ray between.ray_is s.along d between

      test : IsTrue b ↔ IsSectorInside A sections rays i
      test = decides hands_alike sided

      by_hand : b ≡ false → (side : Hand) → s.s.hand ≡ side → IsGerm area v d Exterior
      by_hand e hand.Left h = absurd (true≢false (sym (test.1 (left_is_inside i between.ray between.ray_is s h)) ∙ e))
      by_hand e hand.Right h = ways.1 h
      by_hand e hand.Line h =
          absurd (sided.sided s.s s.there (of_row s.s s.there).toward.which_is one.place (area_is s.s s.there) h)

  -- so does that in the sector of a direction along which no edge runs
  pub part_by_hands : is_on_edges v (edges_in area) ≡ true → (d : Dir) → IsFree area v (direction_of d) → (i : ℕ)
      → (((j : ℕ) (ray : Dir) → IsAtPlace rays j ray → ¬ IsSameDirection ray d) → IsInSector rays i (direction_of d)) → (b : Bool)
      → (AreHandsAlike A sections → AreSided A sections → (IsTrue b ↔ IsSectorInside A sections rays i))
      → (b ≡ true → IsGerm area v (direction_of d) Interior) × (b ≡ false → IsGerm area v (direction_of d) Exterior)
  part_by_hands on d free i found b decides =
      by_sector i (direction_of d) (between_rays rays i (direction_of d) (some_ray on) (found (off_rays d free))) b decides
