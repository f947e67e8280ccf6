-- What is built along a tree's course agrees with the rules of its tokens, and in the end it is the figure of the tree.
use Rattle.std.proofs.Common.{◌≡◌, ℕ, suc, zero, ◌+◌, ℤ, Bool, true, false, cond, nat_lt, Option, Some, None, Ok, Err, List, [], ◌∷◌, ◌++◌}
use Rattle.std.proofs.Common.{map, refl, sym, subst}
use Rattle.std.specs.List.{flat_map}
use Rattle.std.proofs.lemmas.List.{append_assoc, append-nil}
use Rattle.std.proofs.lemmas.List.Concat.{flat_map_single}
use Rattle.plane_exact.specs.declared.point.Pt.{Pt}
use Rattle.point_set.specs.declared.figure.Area.{Area}
use Rattle.point_set.specs.declared.figure.Figure.{Figure}
use Rattle.wkt_text.specs.declared.word.TypeWord.{TypeWord}
use Rattle.wkt_text.specs.declared.word.TypeWord.TheVariants as type
use Rattle.wkt_text.specs.declared.word.Tag.{Tag}
use Rattle.wkt_text.specs.declared.word.Tag.TheVariants.{Plain, Z, M, Zm}
use Rattle.wkt_text.specs.declared.number.Numeral.{Numeral}
use Rattle.wkt_text.specs.declared.number.Numeral.TheVariants.{Long, Malformed, Fraction, Wide, Whole}
use Rattle.wkt_text.specs.declared.token.Token.{Token}
use Rattle.wkt_text.specs.declared.token.Token.TheVariants as token
use Rattle.wkt_text.specs.declared.state.Role.{Role}
use Rattle.wkt_text.specs.declared.state.Role.TheVariants.{Head, Deep, Mark, Group, PointY, WayY, EndLine, EndShell, EndHole, EndArea}
use Rattle.wkt_text.specs.declared.control.WktKind.{WktKind}
use Rattle.wkt_text.specs.declared.control.WktKind.TheVariants as kind
use Rattle.wkt_text.specs.declared.build.Build.{Build}
use Rattle.plane_exact.specs.Limits.{most_positions}
use Rattle.wkt_text.specs.Limits.{most_depth}
use Rattle.wkt_text.specs.Machine.{depth_role}
use Rattle.wkt_text.specs.Grammar.{Ordinate, More, Position, Way, empty_way, along, empty_element, bare, bracketed, Surface, empty_surface}
use Rattle.wkt_text.specs.Grammar.{hollow, area, Many, empty_many, several, Simple, empty_point, point, line, polygon, points, lines}
use Rattle.wkt_text.specs.Grammar.{polygons, Writing, joined, apart, Geometry, simple, empty_collection, collection, Geometries, none, more}
use Rattle.wkt_text.specs.Grammar.{type_of_simple}
use Rattle.wkt_text.specs.Figures.{coordinate_of, point_of_position, paths_of_way, points_of_element, regions_of_surface, items_of}
use Rattle.wkt_text.specs.Figures.{parts_of, parts_of_all, area_of, figure_of}
use Rattle.wkt_text.specs.Rules.{TokenRule, unruled, nested, ends_line, ends_ring, Slot, slot, numeral_fault, drop_fault, line_fault}
use Rattle.wkt_text.specs.Rules.{ring_fault, fault_under, begun_with}
use Rattle.wkt_text.specs.Spelling.{ordinate_token, further_then, more_then, position_then, others_then, along_then, gap_then, way_then}
use Rattle.wkt_text.specs.Spelling.{element_then, gaps_then, surface_then, many_then, simple_then, head_then, geometry_then}
use Rattle.wkt_text.specs.Spelling.{geometries_then, spelling}
use Rattle.wkt_text.specs.Building.{◌>>=◌, numeral_value, unless, with_points, with_lines, with_areas, with_x, with_point, with_position}
use Rattle.wkt_text.specs.Building.{next_group, empty_figure, start_build, act}
use Rattle.wkt_text.proofs.Moves.{Move, move, course}
use Rattle.wkt_text.proofs.Moves as moves
use Rattle.wkt_text.proofs.Groups.{with_part, with_parts, with_parts-append, with_parts-lists, map-flat_map}

-- From what is built, with so many positions begun, each move builds on where the token keeps its rule, and stops with the token's
-- fault where it breaks it. Where all are kept, what is built in the end has a property.
pub data Agrees (E : Build → Type 0) : Build → ℕ → List Move → List Slot → Type 0 where
  ended : {b : Build} {n : ℕ} → E b → Agrees E b n [] []
  taken : {b c : Build} {n : ℕ} {t : Token} {role : Role} {rule : TokenRule} {moves : List Move} {slots : List Slot} →
      act b role t ≡ Ok c → fault_under rule n t ≡ None → Agrees E c (begun_with rule n) moves slots →
      Agrees E b n (move t role ∷ moves) (slot t rule ∷ slots)
  stopped : {b : Build} {n : ℕ} {k : WktKind} {t : Token} {role : Role} {rule : TokenRule} {moves : List Move} {slots : List Slot} →
      act b role t ≡ Err k → fault_under rule n t ≡ Some k → Agrees E b n (move t role ∷ moves) (slot t rule ∷ slots)

-- Between two items: no position is begun.
abbrev at : Figure → List Pt → Option (List Pt) → List (List Pt) → ℕ → ℕ → Build
at f way shell holes n k = record { figure = f; way = way; shell = shell; holes = holes; x = None; count = n; group = k }

act_word : (shallow : Bool) (b : Build) (t : Token) → act b (cond shallow Head Deep) t ≡ cond shallow (Ok b) (Err kind.Deep)
unfolding act
act_word true b t = refl
act_word false b t = refl

module _ (E : Build → Type 0) where
  -- ---- one token

  plain : {b : Build} {n : ℕ} {t : Token} {r : List Move} {s : List Slot} → Agrees E b n r s →
      Agrees E b n (move t Mark ∷ r) (slot t unruled ∷ s)
  unfolding act
  plain h = taken refl refl h

  by_fault : {b c : Build} {n : ℕ} {t : Token} {role : Role} {rule : TokenRule} {r : List Move} {s : List Slot} (o : Option WktKind) →
      act b role t ≡ unless o c → fault_under rule n t ≡ o → Agrees E c (begun_with rule n) r s →
      Agrees E b n (move t role ∷ r) (slot t rule ∷ s)
  by_fault None e f h = taken e f h
  by_fault (Some k) e f h = stopped e f

  by_value : {b : Build} {n : ℕ} {t : Token} {role : Role} {rule : TokenRule} {r : List Move} {s : List Slot}
      (m : Numeral) (g : ℤ → Build) →
      act b role t ≡ (numeral_value m >>= λ z. Ok (g z)) → fault_under rule n t ≡ numeral_fault m →
      Agrees E (g (coordinate_of m)) (begun_with rule n) r s → Agrees E b n (move t role ∷ r) (slot t rule ∷ s)
  by_value Long g e f h = stopped e f
  by_value Malformed g e f h = stopped e f
  by_value Fraction g e f h = stopped e f
  by_value Wide g e f h = stopped e f
  by_value (Whole z) g e f h = taken e f h

  by_count : {b : Build} {n : ℕ} {t : Token} {role : Role} {rule : TokenRule} {r : List Move} {s : List Slot}
      (few : Bool) (m : Numeral) (g : ℤ → Build) →
      act b role t ≡ cond few (numeral_value m >>= λ z. Ok (g z)) (Err kind.TooMany) →
      fault_under rule n t ≡ cond few (numeral_fault m) (Some kind.TooMany) →
      Agrees E (g (coordinate_of m)) (begun_with rule n) r s → Agrees E b n (move t role ∷ r) (slot t rule ∷ s)
  by_count true m g e f h = by_value m g e f h
  by_count false m g e f h = stopped e f

  by_word : {b : Build} {n : ℕ} {t : Token} {role : Role} {rule : TokenRule} {r : List Move} {s : List Slot} (shallow : Bool) →
      act b role t ≡ cond shallow (Ok b) (Err kind.Deep) → fault_under rule n t ≡ cond shallow None (Some kind.Deep) →
      Agrees E b (begun_with rule n) r s → Agrees E b n (move t role ∷ r) (slot t rule ∷ s)
  by_word true e f h = taken e f h
  by_word false e f h = stopped e f

  -- ---- positions

  further_on : (o : Option Ordinate) (b : Build) (n : ℕ) (r : List Move) (s : List Slot) → Agrees E b n r s →
      Agrees E b n (moves.further_then o r) (further_then o s)
  unfolding act
  further_on None b n r s h = h
  further_on (Some o) b n r s h = by_fault (drop_fault (ordinate_token o)) refl refl h

  more_on : (tag : Tag) (m : More tag) (b : Build) (n : ℕ) (r : List Move) (s : List Slot) → Agrees E b n r s →
      Agrees E b n (moves.more_then tag m r) (more_then tag m s)
  unfolding act
  more_on Plain None b n r s h = h
  more_on Plain (Some (o, w)) b n r s h = by_fault (drop_fault (ordinate_token o)) refl refl (further_on w b n r s h)
  more_on Z m b n r s h = by_fault (drop_fault (ordinate_token m)) refl refl h
  more_on M m b n r s h = by_fault (drop_fault (ordinate_token m)) refl refl h
  more_on Zm (o, w) b n r s h =
      by_fault (drop_fault (ordinate_token o)) refl refl (by_fault (drop_fault (ordinate_token w)) refl refl h)

  -- A loose point.
  point_on : {tag : Tag} (p : Position tag) (f : Figure) (k : ℕ) (l : List Pt) (n : ℕ) (r : List Move) (s : List Slot) →
      Agrees E (at (with_points f (l ++ point_of_position p ∷ [])) [] None [] (n + 1) k) (n + 1) r s →
      Agrees E (at (with_points f l) [] None [] n k) n (moves.position_then PointY p r) (position_then p s)
  unfolding act
  point_on {tag} p f k l n r s h =
      let b : Build = at (with_points f l) [] None [] n k in
      let c : Build = with_x b (coordinate_of p.x) in
      by_count (nat_lt n most_positions) p.x (with_x b) refl refl
      (by_value p.y (with_point c (Some (coordinate_of p.x))) refl refl (more_on tag p.more _ (n + 1) r s h))

  -- A position of a line or ring.
  position_on : {tag : Tag} (p : Position tag) (f : Figure) (shell : Option (List Pt)) (holes : List (List Pt)) (k : ℕ) (way : List Pt)
      (n : ℕ) (r : List Move) (s : List Slot) → Agrees E (at f (way ++ point_of_position p ∷ []) shell holes (n + 1) k) (n + 1) r s →
      Agrees E (at f way shell holes n k) n (moves.position_then WayY p r) (position_then p s)
  unfolding act
  position_on {tag} p f shell holes k way n r s h =
      let b : Build = at f way shell holes n k in
      let c : Build = with_x b (coordinate_of p.x) in
      by_count (nat_lt n most_positions) p.x (with_x b) refl refl
      (by_value p.y (with_position c (Some (coordinate_of p.x))) refl refl (more_on tag p.more _ (n + 1) r s h))

  -- ---- items, one after the other

  -- An item adds what it gives to a list.
  abbrev Adds : {A B : Type 0} → (A → List Move → List Move) → (A → List Slot → List Slot) → (A → List B) → (List B → ℕ → Build) → Type 0
  Adds {A} {B} f g give S = (x : A) (l : List B) (n : ℕ) (r : List Move) (s : List Slot) →
      ((m : ℕ) → Agrees E (S (l ++ give x) m) m r s) → Agrees E (S l n) n (f x r) (g x s)

  none_on : {B : Type 0} (S : List B → ℕ → Build) (l : List B) (n : ℕ) (r : List Move) (s : List Slot) →
      ((m : ℕ) → Agrees E (S (l ++ []) m) m r s) → Agrees E (S l n) n r s
  none_on S l n r s h = subst (λ w. Agrees E (S w n) n r s) (append-nil l) (h n)

  -- What further items give is added to a list.
  abbrev AddsAll : {A B : Type 0} → (A → List Move → List Move) → (A → List Slot → List Slot) → (A → List B) → (List B → ℕ → Build) →
      List A → Type 0
  AddsAll {A} {B} f g give S xs = (l : List B) (n : ℕ) (r : List Move) (s : List Slot) →
      ((m : ℕ) → Agrees E (S (l ++ flat_map give xs) m) m r s) → Agrees E (S l n) n (moves.others_then f xs r) (others_then g xs s)

  -- An item, and then further ones.
  next_on : {A B : Type 0} (f : A → List Move → List Move) (g : A → List Slot → List Slot) (give : A → List B) (S : List B → ℕ → Build) →
      Adds f g give S → (x : A) (xs : List A) → AddsAll f g give S xs → (l : List B) (n : ℕ) (r : List Move) (s : List Slot) →
      ((m : ℕ) → Agrees E (S (l ++ flat_map give (x ∷ xs)) m) m r s) →
      Agrees E (S l n) n (f x (moves.others_then f xs r)) (g x (others_then g xs s))
  next_on f g give S item x xs others l n r s h =
      let same = append_assoc l (give x) (flat_map give xs) in
      item x l n _ _ (λ m. others (l ++ give x) m r s (λ j. subst (λ w. Agrees E (S w j) j r s) (sym same) (h j)))

  others_on : {A B : Type 0} (f : A → List Move → List Move) (g : A → List Slot → List Slot) (give : A → List B) (S : List B → ℕ → Build) →
      Adds f g give S → (xs : List A) → AddsAll f g give S xs
  others_on f g give S item [] l n r s h = none_on S l n r s h
  others_on f g give S item (x ∷ xs) l n r s h =
      plain (next_on f g give S item x xs (others_on f g give S item xs) l n r s h)

  -- The items of a list in brackets.
  items_on : {A B : Type 0} (f : A → List Move → List Move) (g : A → List Slot → List Slot) (give : A → List B) (S : List B → ℕ → Build) →
      Adds f g give S → (x : A) (xs : List A) (l : List B) (n : ℕ) (r : List Move) (s : List Slot) →
      ((m : ℕ) → Agrees E (S (l ++ flat_map give (x ∷ xs)) m) m r s) →
      Agrees E (S l n) n (f x (moves.others_then f xs (move token.Close Mark ∷ r))) (g x (others_then g xs (slot token.Close unruled ∷ s)))
  items_on f g give S item x xs l n r s h =
      next_on f g give S item x xs (others_on f g give S item xs) l n _ _ (λ m. plain (h m))

  many_on : {A B : Type 0} (f : A → List Move → List Move) (g : A → List Slot → List Slot) (give : A → List B) (S : List B → ℕ → Build) →
      Adds f g give S → Adds (moves.many_then Mark f) (many_then g) (λ xs. flat_map give (items_of xs)) S
  many_on f g give S item empty_many l n r s h = plain (none_on S l n r s h)
  many_on f g give S item (several x xs) l n r s h = plain (items_on f g give S item x xs l n r s h)

  -- ---- lines and rings

  along_on : {tag : Tag} (end : Role) (rule : List Pt → TokenRule) (p : Position tag) (ps : List (Position tag)) (f : Figure)
      (shell : Option (List Pt)) (holes : List (List Pt)) (k n : ℕ) (r : List Move) (s : List Slot) →
      (let way = map point_of_position (p ∷ ps) in
      (m : ℕ) → Agrees E (at f way shell holes m k) m (move token.Close end ∷ r) (slot token.Close (rule way) ∷ s)) →
      Agrees E (at f [] shell holes n k) n (moves.along_then end p ps r) (along_then rule p ps s)
  along_on end rule p ps f shell holes k n r s h =
      let S = λ (l : List Pt) (n : ℕ). at f l shell holes n k in
      let way = map point_of_position (p ∷ ps) in
      let more_moves = move token.Close end ∷ r in
      let more_slots = slot token.Close (rule way) ∷ s in
      plain (position_on p f shell holes k [] n _ _
      (others_on (moves.position_then WayY) position_then (λ q. point_of_position q ∷ []) S
      (λ q l n r s h. position_on q f shell holes k l n r s (h (n + 1))) ps (point_of_position p ∷ []) (n + 1) more_moves more_slots
      (λ m. subst (λ l. Agrees E (at f (point_of_position p ∷ l) shell holes m k) m more_moves more_slots)
      (sym (flat_map_single point_of_position ps)) (h m))))

  line_on : {tag : Tag} (f : Figure) (k : ℕ) →
      Adds (moves.way_then {tag = tag} EndLine) (way_then ends_line) paths_of_way (λ l n. at (with_lines f l) [] None [] n k)
  unfolding act
  line_on f k empty_way l n r s h = plain (none_on (λ l n. at (with_lines f l) [] None [] n k) l n r s h)
  line_on f k (along p ps) l n r s h =
      along_on EndLine ends_line p ps (with_lines f l) None [] k n r s
      (λ m. by_fault (line_fault (map point_of_position (p ∷ ps))) refl refl (h m))

  hole_on : {tag : Tag} (f : Figure) (shell : List Pt) (k : ℕ) →
      Adds (moves.way_then {tag = tag} EndHole) (way_then ends_ring) paths_of_way (λ l n. at f [] (Some shell) l n k)
  unfolding act
  hole_on f shell k empty_way l n r s h = plain (none_on (λ l n. at f [] (Some shell) l n k) l n r s h)
  hole_on f shell k (along p ps) l n r s h =
      along_on EndHole ends_ring p ps f (Some shell) l k n r s
      (λ m. by_fault (ring_fault (map point_of_position (p ∷ ps))) refl refl (h m))

  -- ---- points and areas

  element_on : {tag : Tag} (f : Figure) (k : ℕ) →
      Adds (moves.element_then {tag = tag}) element_then points_of_element (λ l n. at (with_points f l) [] None [] n k)
  element_on f k empty_element l n r s h = plain (none_on (λ l n. at (with_points f l) [] None [] n k) l n r s h)
  element_on f k (bare p) l n r s h = point_on p f k l n r s (h (n + 1))
  element_on f k (bracketed p) l n r s h = plain (point_on p f k l n _ _ (plain (h (n + 1))))

  gaps_on : (g : ℕ) (b : Build) (n : ℕ) (r : List Move) (s : List Slot) → Agrees E b n r s →
      Agrees E b n (moves.gaps_then g r) (gaps_then g s)
  gaps_on zero b n r s h = h
  gaps_on (suc g) b n r s h = plain (plain (gaps_on g b n r s h))

  -- The areas of a polygon in a group.
  abbrev areas_in : {tag : Tag} → ℕ → Surface tag → List Area
  areas_in k x = map (area_of k) (regions_of_surface x)

  -- What follows the opening bracket of a polygon.
  hollow_on : (g : ℕ) (b : Build) (n : ℕ) (r : List Move) (s : List Slot) → Agrees E b n r s →
      Agrees E b n (moves.gap_then (moves.gaps_then g (move token.Close Mark ∷ r))) (gap_then (gaps_then g (slot token.Close unruled ∷ s)))
  hollow_on g b n r s h = plain (gaps_on g b n _ _ (plain h))

  area_on : {tag : Tag} (f : Figure) (k : ℕ) (p : Position tag) (ps : List (Position tag)) (holes : List (Way tag)) (l : List Area) (n : ℕ)
      (r : List Move) (s : List Slot) →
      ((m : ℕ) → Agrees E (at (with_areas f (l ++ areas_in k (area p ps holes))) [] None [] m k) m r s) →
      Agrees E (at (with_areas f l) [] None [] n k) n
      (moves.along_then EndShell p ps (moves.others_then (moves.way_then EndHole) holes (move token.Close EndArea ∷ r)))
      (along_then ends_ring p ps (others_then (way_then ends_ring) holes (slot token.Close unruled ∷ s)))
  unfolding act
  area_on f k p ps holes l n r s h =
      let way = map point_of_position (p ∷ ps) in
      along_on EndShell ends_ring p ps (with_areas f l) None [] k n _ _
      (λ m. by_fault (ring_fault way) refl refl
      (others_on (moves.way_then EndHole) (way_then ends_ring) paths_of_way (λ l₁ n. at (with_areas f l) [] (Some way) l₁ n k)
      (hole_on (with_areas f l) way k) holes [] m _ _ (λ j. taken refl refl (h j))))

  surface_on : {tag : Tag} (f : Figure) (k : ℕ) →
      Adds (moves.surface_then {tag = tag} Mark) surface_then (areas_in k) (λ l n. at (with_areas f l) [] None [] n k)
  surface_on f k empty_surface l n r s h = plain (none_on (λ l n. at (with_areas f l) [] None [] n k) l n r s h)
  surface_on f k (hollow g) l n r s h =
      let S = λ (l : List Area) (n : ℕ). at (with_areas f l) [] None [] n k in
      plain (hollow_on g (S l n) n r s (none_on S l n r s h))
  surface_on f k (area p ps holes) l n r s h = plain (area_on f k p ps holes l n r s h)

  -- ---- a part

  -- Whatever was counted, this figure leads on.
  abbrev Makes : Figure → List Move → List Slot → Type 0
  Makes f r s = (n k : ℕ) → Agrees E (at f [] None [] n k) n r s

  same_figure : (f g : Figure) → f ≡ g → (r : List Move) (s : List Slot) → Makes f r s → Makes g r s
  same_figure f g e r s h n k = subst (λ f. Agrees E (at f [] None [] n k) n r s) e (h n k)

  made_points : (f : Figure) (ps : List Pt) (r : List Move) (s : List Slot) →
      Makes (record {
        points =
            f.points ++ ps;
        lines = f.lines ++ [];
        areas = f.areas ++ [];
      }) r s → Makes (with_points f (f.points ++ ps)) r s
  made_points f ps r s h =
      same_figure _ _ (λ i. record { points = f.points ++ ps; lines = append-nil f.lines i; areas = append-nil f.areas i }) r s h

  made_lines : (f : Figure) (ls : List (List Pt)) (r : List Move) (s : List Slot) →
      Makes (record {
        points =
            f.points ++ [];
        lines = f.lines ++ ls;
        areas = f.areas ++ [];
      }) r s → Makes (with_lines f (f.lines ++ ls)) r s
  made_lines f ls r s h =
      same_figure _ _ (λ i. record { points = append-nil f.points i; lines = f.lines ++ ls; areas = append-nil f.areas i }) r s h

  made_areas : (f : Figure) (rs : List Area) (r : List Move) (s : List Slot) →
      Makes (record {
        points =
            f.points ++ [];
        lines = f.lines ++ [];
        areas = f.areas ++ rs;
      }) r s → Makes (with_areas f (f.areas ++ rs)) r s
  made_areas f rs r s h =
      same_figure _ _ (λ i. record { points = append-nil f.points i; lines = append-nil f.lines i; areas = f.areas ++ rs }) r s h

  -- A part that gives nothing.
  made_none : (f : Figure) (r : List Move) (s : List Slot) →
      Makes (record { points = f.points ++ []; lines = f.lines ++ []; areas = f.areas ++ [] }) r s → Makes f r s
  made_none f r s h =
      same_figure _ _ (λ i. record { points = f.points; lines = f.lines; areas = append-nil f.areas i }) r s (made_areas f [] r s h)

  polygon_on : {tag : Tag} (x : Surface tag) (f : Figure) (n k : ℕ) (r : List Move) (s : List Slot) →
      Makes (with_part f (tag, polygon x)) r s →
      Agrees E (at f [] None [] n k) n (moves.surface_then Group x r) (surface_then x s)
  unfolding act
  polygon_on empty_surface f n k r s h = plain (made_none f r s h n k)
  polygon_on (hollow g) f n k r s h =
      let group = next_group f.areas in
      taken refl refl (hollow_on g (at f [] None [] n group) n r s (made_none f r s h n group))
  polygon_on (area p ps holes) f n k r s h =
      let group = next_group f.areas in
      taken refl refl (area_on f group p ps holes f.areas n r s (λ m. made_areas f (areas_in group (area p ps holes)) r s h m group))

  polygons_on : {tag : Tag} (xs : Many (Surface tag)) (f : Figure) (n k : ℕ) (r : List Move) (s : List Slot) →
      Makes (with_part f (tag, polygons xs)) r s →
      Agrees E (at f [] None [] n k) n (moves.many_then Group (moves.surface_then Mark) xs r) (many_then surface_then xs s)
  unfolding act
  polygons_on empty_many f n k r s h = plain (made_none f r s h n k)
  polygons_on (several x xs) f n k r s h =
      let group = next_group f.areas in
      let S = λ (l : List Area) (n : ℕ). at (with_areas f l) [] None [] n group in
      let same = map-flat_map (area_of group) regions_of_surface (x ∷ xs) in
      taken refl refl (items_on (moves.surface_then Mark) surface_then (areas_in group) S (surface_on f group) x xs f.areas n r s
      (λ j. subst (λ w. Agrees E (S (f.areas ++ w) j) j r s) (sym same) (made_areas f _ r s h j group)))

  simple_on : {tag : Tag} (x : Simple tag) (f : Figure) (n k : ℕ) (r : List Move) (s : List Slot) → Makes (with_part f (tag, x)) r s →
      Agrees E (at f [] None [] n k) n (moves.simple_then x r) (simple_then x s)
  simple_on empty_point f n k r s h = plain (made_none f r s h n k)
  simple_on (point p) f n k r s h =
      plain (point_on p f k f.points n _ _ (plain (made_points f (point_of_position p ∷ []) r s h (n + 1) k)))
  simple_on (points es) f n k r s h =
      many_on _ _ points_of_element (λ l n. at (with_points f l) [] None [] n k) (element_on f k) es f.points n r s
      (λ m. made_points f (flat_map points_of_element (items_of es)) r s h m k)
  simple_on (line w) f n k r s h = line_on f k w f.lines n r s (λ m. made_lines f (paths_of_way w) r s h m k)
  simple_on (lines ws) f n k r s h =
      many_on _ _ paths_of_way (λ l n. at (with_lines f l) [] None [] n k) (line_on f k) ws f.lines n r s
      (λ m. made_lines f (flat_map paths_of_way (items_of ws)) r s h m k)
  simple_on (polygon x) f n k r s h = polygon_on x f n k r s h
  simple_on (polygons xs) f n k r s h = polygons_on xs f n k r s h

  -- ---- a geometry

  head_on : (kind : TypeWord) (w : Writing) (b : Build) (n : ℕ) (r : List Move) (s : List Slot) → Agrees E b n r s →
      Agrees E b n (moves.head_then Head kind w r) (head_then unruled kind w s)
  unfolding act
  head_on kind (joined t) b n r s h = taken refl refl h
  head_on kind (apart t) b n r s h = taken refl refl (plain h)

  word_on : (depth : ℕ) (w : Writing) (b : Build) (n : ℕ) (r : List Move) (s : List Slot) → Agrees E b n r s →
      Agrees E b n (moves.head_then (depth_role depth) type.GeometryCollection w r) (head_then (nested depth) type.GeometryCollection w s)
  word_on depth (joined t) b n r s h = by_word (nat_lt depth most_depth) (act_word (nat_lt depth most_depth) b _) refl h
  word_on depth (apart t) b n r s h = by_word (nat_lt depth most_depth) (act_word (nat_lt depth most_depth) b _) refl (plain h)

  mutual
    geometry_on : (g : Geometry) (depth : ℕ) (f : Figure) (n k : ℕ) (r : List Move) (s : List Slot) →
        Makes (with_parts f (parts_of g)) r s →
        Agrees E (at f [] None [] n k) n (moves.geometry_then g depth r) (geometry_then g depth s)
    geometry_on (simple w x) depth f n k r s h = head_on (type_of_simple x) w _ n _ _ (simple_on x f n k r s h)
    geometry_on (empty_collection w) depth f n k r s h = word_on depth w _ n _ _ (plain (h n k))
    geometry_on (collection w g gs) depth f n k r s h =
        word_on depth w _ n _ _ (plain (geometry_on g (suc depth) f n k _ _
        (λ m j. geometries_on gs (suc depth) (with_parts f (parts_of g)) m j _ _
        (λ m j. plain (same_figure _ _ (with_parts-append f (parts_of g) (parts_of_all gs)) r s h m j)))))

    geometries_on : (gs : Geometries) (depth : ℕ) (f : Figure) (n k : ℕ) (r : List Move) (s : List Slot) →
        Makes (with_parts f (parts_of_all gs)) r s →
        Agrees E (at f [] None [] n k) n (moves.geometries_then gs depth r) (geometries_then gs depth s)
    geometries_on none depth f n k r s h = h n k
    geometries_on (more g gs) depth f n k r s h =
        plain (geometry_on g depth f n k _ _
        (λ m j. geometries_on gs depth (with_parts f (parts_of g)) m j r s
        (same_figure _ _ (with_parts-append f (parts_of g) (parts_of_all gs)) r s h)))

-- What is built is the figure of the tree.
abbrev pub IsFigureOf : Geometry → Build → Type 0
IsFigureOf g b = b.figure ≡ figure_of g

pub agrees : (g : Geometry) → Agrees (IsFigureOf g) start_build 0 (course g) (spelling g)
unfolding figure_of
agrees g = geometry_on (IsFigureOf g) g 0 empty_figure 0 0 [] [] (λ n k. ended (with_parts-lists empty_figure (parts_of g)))
