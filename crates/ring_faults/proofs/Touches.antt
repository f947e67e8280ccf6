-- Links that are added where edges of two parts touch.
use Rattle.std.proofs.Common.{◌≡◌, ◌⊎◌, inl, inr, ℕ, ◌+◌, ◌<◌, ◌≤◌, List, [], ◌∷◌, ◌++◌, length, get_or, take, ap, refl, sym, ◌∙◌}
use Rattle.std.proofs.Common.{subst, arith}
use Rattle.std.specs.List.{Contains}
use Rattle.std.proofs.lemmas.Bool.{cases_lt}
use Rattle.std.proofs.lemmas.List.{take_more}
use Rattle.std.proofs.lemmas.List.Elements.{Contains-push, Contains-append_left, Contains-push_cases}
use Rattle.plane_exact.specs.NodePoints.{point_at}
use Rattle.plane_laws.specs.Plane.{Point}
use Rattle.plane_exact.specs.declared.node.Node.{Node}
use Rattle.plane_exact.specs.declared.point.Pt.{Pt}
use Rattle.plane_exact.specs.declared.point.Seg.{Seg}
use Rattle.plane_laws.proofs.Points.Same.{same_sym}
use Rattle.seg_cross.specs.Meets.{IsMeet, IsCommon}
use Rattle.seg_cross.specs.declared.answer.Meet.{Meet}
use Rattle.seg_cross.specs.declared.answer.Meet.TheVariants.{Apart, At, Along}
use Rattle.point_set.specs.Validity.{IsAtPlace, ShareSegment}
use Rattle.figure_laws.proofs.Lists.Places.{some_same}
use Rattle.ring_faults.specs.declared.link.Link.{Link}
use Rattle.ring_faults.specs.declared.part.PartEdge.{PartEdge}
use Rattle.ring_faults.specs.declared.clash.Clash.TheVariants.{Sharing}
use Rattle.ring_faults.specs.Clashes.{AreNearPlaces, SomeClash}
use Rattle.ring_faults.specs.Parts.{IsOnPart, segs_of}
use Rattle.ring_faults.specs.Touches.{AreLinkedAt, IsAmong, AddsTouches, AreLinksOfParts}
use Rattle.ring_faults.proofs.NearPlaces.{near_edge}
use Rattle.ring_faults.proofs.Overlaps.{along_shares}
use Rattle.ring_faults.proofs.PartEdges.{contained_at}

-- ---- what two edges add
-- nothing, where they have no common point
adds_none :
    (edges : List PartEdge) (e f : PartEdge) (links : List Link) → ((p : Point) → ¬ IsCommon e.seg f.seg p)
    → AddsTouches edges e (λ other. other ≡ f) links links
adds_none edges e f links none = record {
  kept = λ l h. h;
  sound = λ l h. inl h;
  whole = λ other same less p c. absurd (none p (subst (λ (x : PartEdge). IsCommon e.seg x.seg p) same c));
}

-- the links of a node with the parts of two edges
abbrev pub with_both : List Link → Node → ℕ → ℕ → List Link
with_both links n i j = (links ++ (record { node = n; ring = i }) ∷ []) ++ (record { node = n; ring = j }) ∷ []

-- both edges are of the row
pub adds_node :
    (edges : List PartEdge) (e f : PartEdge) (links : List Link) (n : Node) → Contains edges e → Contains edges f
    → IsMeet e.seg f.seg (At n) → AddsTouches edges e (λ other. other ≡ f) links (with_both links n e.part f.part)
adds_node edges e f links n e_in f_in meets = record { kept = kept; sound = sound; whole = whole }
  where
    kept : (l : Link) → Contains links l → Contains (with_both links n e.part f.part) l
    kept l h =
        Contains-append_left (links ++ (record { node = n; ring = e.part }) ∷ []) ((record { node = n; ring = f.part }) ∷ []) l
        (Contains-append_left links ((record { node = n; ring = e.part }) ∷ []) l h)

    of_link : (l : Link) (edge : PartEdge) → (let m : Link = record { node = n; ring = edge.part } in m) ≡ l
        → IsOnPart edges edge.part (point_at n)
        → IsOnPart edges l.ring (point_at l.node)
    of_link l edge e on = subst (λ (m : Link). IsOnPart edges m.ring (point_at m.node)) e on

    on_e : IsOnPart edges e.part (point_at n)
    on_e = record { edge = e; there = e_in; part_is = refl; on = meets.common.first }

    on_f : IsOnPart edges f.part (point_at n)
    on_f = record { edge = f; there = f_in; part_is = refl; on = meets.common.second }

    sound : (l : Link) → Contains (with_both links n e.part f.part) l → Contains links l ⊎ IsOnPart edges l.ring (point_at l.node)
    sound l h = later (Contains-push_cases (links ++ (record { node = n; ring = e.part }) ∷ []) (record { node = n; ring = f.part }) l h)
      where
        earlier :
            Contains links l ⊎ ((let m : Link = record { node = n; ring = e.part } in m) ≡ l)
            → Contains links l ⊎ IsOnPart edges l.ring (point_at l.node)
        earlier (inl old) = inl old
        earlier (inr same) = inr (of_link l e same on_e)

        later :
            Contains (links ++ (record { node = n; ring = e.part }) ∷ []) l ⊎ ((let m : Link = record { node = n; ring = f.part } in m) ≡ l)
            → Contains links l ⊎ IsOnPart edges l.ring (point_at l.node)
        later (inl old) = earlier (Contains-push_cases links (record { node = n; ring = e.part }) l old)
        later (inr same) = inr (of_link l f same on_f)

    linked : (p : Point) → IsCommon e.seg f.seg p → AreLinkedAt (with_both links n e.part f.part) p e.part f.part
    linked p c = record {
      node = n;
      at = same_sym (meets.only p c);
      first =
          Contains-append_left (links ++ (record { node = n; ring = e.part }) ∷ []) ((record { node = n; ring = f.part }) ∷ [])
          (record { node = n; ring = e.part }) (Contains-push links (record { node = n; ring = e.part }));
      second = Contains-push (links ++ (record { node = n; ring = e.part }) ∷ []) (record { node = n; ring = f.part });
    }

    whole : (other : PartEdge) → other ≡ f → other.part < e.part → (p : Point) → IsCommon e.seg other.seg p
        → AreLinkedAt (with_both links n e.part f.part) p e.part other.part
    whole other same less p c =
        subst (λ (x : PartEdge). AreLinkedAt (with_both links n e.part f.part) p e.part x.part) (sym same)
        (linked p (subst (λ (x : PartEdge). IsCommon e.seg x.seg p) same c))

-- edges that are apart or run along each other, of which the latter isn't so
pub adds_off :
    (edges : List PartEdge) (e f : PartEdge) (links : List Link) (m : Meet) → ¬ ShareSegment e.seg f.seg → IsMeet e.seg f.seg m
    → (m ≡ Apart) ⊎ ((p : Pt) × (q : Pt) × (m ≡ Along p q)) → AddsTouches edges e (λ other. other ≡ f) links links
adds_off edges e f links m unshared meets (inl apart) =
    adds_none edges e f links (subst (λ (a : Meet). IsMeet e.seg f.seg a) apart meets)
adds_off edges e f links m unshared meets (inr along) =
    absurd (unshared (along_shares e.seg f.seg along.0 along.1 (subst (λ (a : Meet). IsMeet e.seg f.seg a) along.2 meets)))

-- ---- links among more links
pub linked_more :
    (links more : List Link) (p : Point) (i j : ℕ) → ((l : Link) → Contains links l → Contains more l) → AreLinkedAt links p i j
    → AreLinkedAt more p i j
linked_more links more p i j kept a =
    record {
      node = a.node;
      at = a.at;
      first = kept (record { node = a.node; ring = i }) a.first;
      second = kept (record { node = a.node; ring = j }) a.second;
    }

-- ---- an edge with those at some places
-- an edge among those at one place more
among_more : (edges : List PartEdge) (places : List ℕ) (k : ℕ) (f other : PartEdge) → k < length places
    → IsAtPlace edges (get_or places k 0) f
    → IsAmong edges (take (k + 1) places) other → IsAmong edges (take k places) other ⊎ (other ≡ f)
among_more edges places k f other below f_is among =
    by (Contains-push_cases (take k places) (get_or places k 0) among.place
    (subst (λ (xs : List ℕ). Contains xs among.place) (take_more places k 0 below) among.there))
  where
    by : Contains (take k places) among.place ⊎ (get_or places k 0 ≡ among.place) → IsAmong edges (take k places) other ⊎ (other ≡ f)
    by (inl there) = inl (record { place = among.place; there = there; is = among.is })
    by (inr same) = inr (some_same (sym among.is ∙ subst (λ m. IsAtPlace edges m f) same f_is))

-- one place more, with an edge of an earlier part
pub adds_more :
    (edges : List PartEdge) (e : PartEdge) (places : List ℕ) (k : ℕ) (f : PartEdge) (old mid new : List Link) → k < length places
    → IsAtPlace edges (get_or places k 0) f → AddsTouches edges e (IsAmong edges (take k places)) old mid
    → AddsTouches edges e (λ other. other ≡ f) mid new → AddsTouches edges e (IsAmong edges (take (k + 1) places)) old new
adds_more edges e places k f old mid new below f_is h g = record {
  kept = λ l c. g.kept l (h.kept l c);
  sound = λ l c. from_new l (g.sound l c);
  whole = λ other among less p c. by other less p c (among_more edges places k f other below f_is among);
}
  where
    from_new : (l : Link) → Contains mid l ⊎ IsOnPart edges l.ring (point_at l.node)
        → Contains old l ⊎ IsOnPart edges l.ring (point_at l.node)
    from_new l (inl c) = h.sound l c
    from_new l (inr on) = inr on

    by : (other : PartEdge) → other.part < e.part → (p : Point) → IsCommon e.seg other.seg p
        → IsAmong edges (take k places) other ⊎ (other ≡ f) → AreLinkedAt new p e.part other.part
    by other less p c (inl among) = linked_more mid new p e.part other.part g.kept (h.whole other among less p c)
    by other less p c (inr same) = g.whole other same less p c

-- one place more, with an edge that isn't of an earlier part
pub adds_same :
    (edges : List PartEdge) (e : PartEdge) (places : List ℕ) (k : ℕ) (f : PartEdge) (old new : List Link) → k < length places
    → IsAtPlace edges (get_or places k 0) f → AddsTouches edges e (IsAmong edges (take k places)) old new → e.part ≤ f.part
    → AddsTouches edges e (IsAmong edges (take (k + 1) places)) old new
adds_same edges e places k f old new below f_is h later = record {
  kept = h.kept;
  sound = h.sound;
  whole = λ other among less p c. by other less p c (among_more edges places k f other below f_is among);
}
  where
    by : (other : PartEdge) → other.part < e.part → (p : Point) → IsCommon e.seg other.seg p
        → IsAmong edges (take k places) other ⊎ (other ≡ f) → AreLinkedAt new p e.part other.part
    by other less p c (inl among) = h.whole other among less p c
    by other less p c (inr same) = let e : other.part ≡ f.part = ap (λ (x : PartEdge). x.part) same in absurd (omega arith)

-- ---- each edge in turn
-- an edge is at a place before another
pub record IsBeforePlace (edges : List PartEdge) (bound : ℕ) (edge : PartEdge) : Type 0 where
  pub place : ℕ
  pub below : place < bound
  pub is : IsAtPlace edges place edge

-- no edge so far
pub links_of_none : (edges : List PartEdge) → AreLinksOfParts edges (IsBeforePlace edges 0) []
links_of_none edges = record {
  sound = λ l h. let below = h.1 in absurd (omega (arith, below));
  whole = λ e f before there less p c. let below = before.below in absurd (omega (arith, below));
}

-- one edge more
pub links_more :
    (edges : List PartEdge) (i : ℕ) (e : PartEdge) (places : List ℕ) (old new : List Link) → IsAtPlace edges i e
    → AreNearPlaces e.seg (segs_of edges) places → AreLinksOfParts edges (IsBeforePlace edges i) old
    → AddsTouches edges e (IsAmong edges places) old new → AreLinksOfParts edges (IsBeforePlace edges (i + 1)) new
links_more edges i e places old new e_is near h g = record {
  sound = λ l c. from_new l (g.sound l c);
  whole = λ e' f before there less p c. by e' f there less p c before (cases_lt before.place i);
}
  where
    from_new : (l : Link) → Contains old l ⊎ IsOnPart edges l.ring (point_at l.node) → IsOnPart edges l.ring (point_at l.node)
    from_new l (inl c) = h.sound l c
    from_new l (inr on) = on

    here : (f : PartEdge) → Contains edges f → f.part < e.part → (p : Point) → IsCommon e.seg f.seg p → AreLinkedAt new p e.part f.part
    here f there less p c =
        let f_is = contained_at edges f there in
        g.whole f (record { place = there.0; there = near_edge e.seg edges places near there.0 f f_is p c.first c.second; is = f_is })
        less p c

    by : (e' f : PartEdge) → Contains edges f → f.part < e'.part → (p : Point) → IsCommon e'.seg f.seg p
        → (before : IsBeforePlace edges (i + 1) e')
        → (before.place < i) ⊎ (i ≤ before.place) → AreLinkedAt new p e'.part f.part
    by e' f there less p c before (inl below) =
        linked_more old new p e'.part f.part g.kept
        (h.whole e' f (record { place = before.place; below = below; is = before.is }) there less p c)
    by e' f there less p c before (inr past) =
        let under = before.below in
        let place : before.place ≡ i = omega (arith, under, past) in
        let same : e' ≡ e = some_same (sym before.is ∙ subst (λ m. IsAtPlace edges m e) (sym place) e_is) in
        subst (λ (x : PartEdge). AreLinkedAt new p x.part f.part) (sym same)
        (here f there (subst (λ (x : PartEdge). f.part < x.part) same less) p (subst (λ (x : PartEdge). IsCommon x.seg f.seg p) same c))

-- all edges
pub links_all : (edges : List PartEdge) (bound : ℕ) (links : List Link) → length edges ≤ bound
    → AreLinksOfParts edges (IsBeforePlace edges bound) links
    → AreLinksOfParts edges (λ e. Contains edges e) links
links_all edges bound links past h = record {
  sound = h.sound;
  whole = λ e f e_in there less p c.
      let below = e_in.1 in
      h.whole e f (record { place = e_in.0; below = omega (arith, below, past); is = contained_at edges e e_in }) there less p c;
}

-- ---- edges of two parts that clash nowhere
-- a common segment is one of the two edges in the other order too
share_flipped : (e f : Seg) → ShareSegment e f → ShareSegment f e
share_flipped e f s = record { a = s.a; b = s.b; apart = s.apart; held = λ r on. let h = s.held r on in (h.1, h.0) }

-- so they have no common segment
pub unshared_parts :
    (edges : List PartEdge) → ¬ SomeClash Sharing edges → (e f : PartEdge) → Contains edges e → (place : ℕ) → IsAtPlace edges place f
    → f.part < e.part → ¬ ShareSegment e.seg f.seg
unshared_parts edges none e f there place f_is less share =
    let e_is = contained_at edges e there in
    let flipped = share_flipped e.seg f.seg share in
    none (record { i = place; j = there.0; clash_at = record { e = f; f = e; e_is = f_is; f_is = e_is; earlier = less; share = flipped } })
