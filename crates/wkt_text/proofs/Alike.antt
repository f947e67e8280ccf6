-- The reader's course along a tree has the tokens of the tree's spelling, and their roles are those of third ordinates where their
-- rules are.
use Rattle.std.proofs.Common.{◌≡◌, ℕ, zero, suc, nat_lt, cond, Bool, true, false, Option, Some, None, List, [], ◌∷◌, ◌++◌, refl, ap}
use Rattle.plane_exact.specs.declared.point.Pt.{Pt}
use Rattle.wkt_text.specs.declared.word.TypeWord.{TypeWord}
use Rattle.wkt_text.specs.declared.word.TypeWord.TheVariants as type
use Rattle.wkt_text.specs.declared.word.Tag.{Tag}
use Rattle.wkt_text.specs.declared.word.Tag.TheVariants.{Plain, Z, M, Zm}
use Rattle.wkt_text.specs.declared.token.Token.{Token}
use Rattle.wkt_text.specs.declared.state.Role.{Role}
use Rattle.wkt_text.specs.declared.state.Role.TheVariants.{Head, Deep, Mark, Group, PointY, WayY, Demanded, Further, EndLine, EndShell}
use Rattle.wkt_text.specs.declared.state.Role.TheVariants.{EndHole}
use Rattle.wkt_text.specs.Limits.{most_depth}
use Rattle.wkt_text.specs.Machine.{depth_role}
use Rattle.wkt_text.specs.Grammar.{Position, empty_way, along, empty_element, bare, bracketed, empty_surface, hollow, area, empty_many}
use Rattle.wkt_text.specs.Grammar.{several, empty_point, point, line, polygon, points, lines, polygons, joined, apart, Geometry, simple}
use Rattle.wkt_text.specs.Grammar.{empty_collection, collection, Geometries, none, more, type_of_simple}
use Rattle.wkt_text.specs.Rules.{TokenRule, unruled, nested, demanded, further, ends_line, ends_ring, Slot, slot, tokens_of}
use Rattle.wkt_text.specs.Spelling.{further_then, more_then, position_then, others_then, along_then, way_then, element_then, gaps_then}
use Rattle.wkt_text.specs.Spelling.{surface_then, many_then, simple_then, head_then, geometry_then, geometries_then, spelling}
use Rattle.wkt_text.proofs.Moves.{Move, move, tokens_in, course}
use Rattle.wkt_text.proofs.Moves as moves

-- Whether a role or a rule is that of a third or fourth ordinate, and whether the tag demands it.
abbrev pub third_of_role : Role → Option Bool
third_of_role Demanded = Some true
third_of_role Further = Some false
third_of_role other = None

abbrev pub third_of_rule : TokenRule → Option Bool
third_of_rule demanded = Some true
third_of_rule further = Some false
third_of_rule other = None

-- The same tokens, with such roles and such rules.
pub data AreAlike : List Move → List Slot → Type 0 where
  ended : AreAlike [] []
  both : {t : Token} {role : Role} {rule : TokenRule} {moves : List Move} {slots : List Slot} → third_of_role role ≡ third_of_rule rule →
      AreAlike moves slots → AreAlike (move t role ∷ moves) (slot t rule ∷ slots)

-- ---- the parts of a tree

-- A part stands alike in front of what is alike.
abbrev Likens : {A : Type 0} → (A → List Move → List Move) → (A → List Slot → List Slot) → Type 0
Likens {A} f g = (x : A) (r : List Move) (s : List Slot) → AreAlike r s → AreAlike (f x r) (g x s)

likens_further : Likens moves.further_then further_then
likens_further None r s h = h
likens_further (Some o) r s h = both refl h

likens_more : (tag : Tag) → Likens (moves.more_then tag) (more_then tag)
likens_more Plain None r s h = h
likens_more Plain (Some (o, w)) r s h = both refl (likens_further w r s h)
likens_more Z m r s h = both refl h
likens_more M m r s h = both refl h
likens_more Zm m r s h = both refl (both refl h)

likens_position : {tag : Tag} (second : Role) → third_of_role second ≡ None → Likens (moves.position_then {tag = tag} second) position_then
likens_position {tag} second e p r s h = both refl (both e (likens_more tag p.more r s h))

likens_others : {A : Type 0} (f : A → List Move → List Move) (g : A → List Slot → List Slot) → Likens f g →
    Likens (moves.others_then f) (others_then g)
likens_others f g item [] r s h = h
likens_others f g item (x ∷ xs) r s h = both refl (item x _ _ (likens_others f g item xs r s h))

likens_along : {tag : Tag} (end : Role) (rule : List Pt → TokenRule) → ((way : List Pt) → third_of_role end ≡ third_of_rule (rule way)) →
    (p : Position tag) → Likens (moves.along_then end p) (along_then rule p)
likens_along end rule e p ps r s h =
    both refl (likens_position WayY refl p _ _ (likens_others _ _ (likens_position WayY refl) ps _ _ (both (e _) h)))

likens_way : {tag : Tag} (end : Role) (rule : List Pt → TokenRule) → ((way : List Pt) → third_of_role end ≡ third_of_rule (rule way)) →
    Likens (moves.way_then {tag = tag} end) (way_then rule)
likens_way end rule e empty_way r s h = both refl h
likens_way end rule e (along p ps) r s h = likens_along end rule e p ps r s h

likens_line : {tag : Tag} → Likens (moves.way_then {tag = tag} EndLine) (way_then ends_line)
likens_line w r s h = likens_way EndLine ends_line (λ way. refl) w r s h

likens_element : {tag : Tag} → Likens (moves.element_then {tag = tag}) element_then
likens_element empty_element r s h = both refl h
likens_element (bare p) r s h = likens_position PointY refl p r s h
likens_element (bracketed p) r s h = both refl (likens_position PointY refl p _ _ (both refl h))

likens_gaps : Likens moves.gaps_then gaps_then
likens_gaps zero r s h = h
likens_gaps (suc n) r s h = both refl (both refl (likens_gaps n r s h))

likens_surface : {tag : Tag} (opening : Role) → third_of_role opening ≡ None → Likens (moves.surface_then {tag = tag} opening) surface_then
likens_surface opening e empty_surface r s h = both refl h
likens_surface opening e (hollow n) r s h = both e (both refl (likens_gaps n _ _ (both refl h)))
likens_surface opening e (area p ps holes) r s h =
    both e (likens_along EndShell ends_ring (λ way. refl) p ps _ _
    (likens_others _ _ (likens_way EndHole ends_ring (λ way. refl)) holes _ _ (both refl h)))

likens_many : {A : Type 0} (opening : Role) (f : A → List Move → List Move) (g : A → List Slot → List Slot) → third_of_role opening ≡ None →
    Likens f g → Likens (moves.many_then opening f) (many_then g)
likens_many opening f g e item empty_many r s h = both refl h
likens_many opening f g e item (several x xs) r s h = both e (item x _ _ (likens_others f g item xs _ _ (both refl h)))

likens_simple : {tag : Tag} → Likens (moves.simple_then {tag = tag}) simple_then
likens_simple empty_point r s h = both refl h
likens_simple (point p) r s h = both refl (likens_position PointY refl p _ _ (both refl h))
likens_simple (line w) r s h = likens_line w r s h
likens_simple (polygon x) r s h = likens_surface Group refl x r s h
likens_simple (points xs) r s h = likens_many Mark _ _ refl likens_element xs r s h
likens_simple (lines ws) r s h = likens_many Mark _ _ refl likens_line ws r s h
likens_simple (polygons xs) r s h = likens_many Group _ _ refl (likens_surface Mark refl) xs r s h

likens_head : (role : Role) (rule : TokenRule) (kind : TypeWord) → third_of_role role ≡ third_of_rule rule →
    Likens (moves.head_then role kind) (head_then rule kind)
likens_head role rule kind e (joined t) r s h = both e h
likens_head role rule kind e (apart t) r s h = both e (both refl h)

word_no_third : (shallow : Bool) → third_of_role (cond shallow Head Deep) ≡ None
word_no_third true = refl
word_no_third false = refl

likens_word : (depth : ℕ) →
    Likens (moves.head_then (depth_role depth) type.GeometryCollection) (head_then (nested depth) type.GeometryCollection)
likens_word depth w r s h =
    likens_head (depth_role depth) (nested depth) type.GeometryCollection (word_no_third (nat_lt depth most_depth)) w r s h

mutual
  likens_geometry : (g : Geometry) → Likens (moves.geometry_then g) (geometry_then g)
  likens_geometry (simple w x) depth r s h = likens_head Head unruled (type_of_simple x) refl w _ _ (likens_simple x r s h)
  likens_geometry (empty_collection w) depth r s h = likens_word depth w _ _ (both refl h)
  likens_geometry (collection w g gs) depth r s h =
      likens_word depth w _ _ (both refl (likens_geometry g (suc depth) _ _ (likens_geometries gs (suc depth) _ _ (both refl h))))

  likens_geometries : (gs : Geometries) → Likens (moves.geometries_then gs) (geometries_then gs)
  likens_geometries none depth r s h = h
  likens_geometries (more g gs) depth r s h = both refl (likens_geometry g depth _ _ (likens_geometries gs depth r s h))

-- The reader's course along a tree is alike to its spelling.
pub alike : (g : Geometry) → AreAlike (course g) (spelling g)
alike g = likens_geometry g 0 [] [] ended

-- ---- the parts of lists that are alike

pub alike_tokens : {moves : List Move} {slots : List Slot} → AreAlike moves slots → tokens_in moves ≡ tokens_of slots
alike_tokens ended = refl
alike_tokens (both {t} e h) = ap (λ u. t ∷ u) (alike_tokens h)

pub alike_tail : {x : Move} {y : Slot} {moves : List Move} {slots : List Slot} → AreAlike (x ∷ moves) (y ∷ slots) → AreAlike moves slots
alike_tail (both e h) = h

-- The first of the moves that are alike to slots, and the first of the slots that are alike to moves.
pub record FirstMove (moves : List Move) (t : Token) (rule : TokenRule) : Type 0 where
  pub role : Role
  pub more : List Move
  pub joined : moves ≡ move t role ∷ more
  pub third : third_of_role role ≡ third_of_rule rule

pub first_move : (moves : List Move) (t : Token) (rule : TokenRule) (rest : List Slot) → AreAlike moves (slot t rule ∷ rest) →
    FirstMove moves t rule
first_move (x ∷ moves) t rule rest (both {role} e h) = record { role = role; more = moves; joined = refl; third = e }
first_move [] t rule rest h = elim h [ ]

pub record FirstSlot (slots : List Slot) (t : Token) : Type 0 where
  pub rule : TokenRule
  pub more : List Slot
  pub joined : slots ≡ slot t rule ∷ more

pub first_slot : (slots : List Slot) (t : Token) (role : Role) (rest : List Move) → AreAlike (move t role ∷ rest) slots → FirstSlot slots t
first_slot (y ∷ slots) t role rest (both {rule} e h) = record { rule = rule; more = slots; joined = refl }
first_slot [] t role rest h = elim h [ ]

-- A list in two parts, each alike to a part of another list.
pub record Split {A B : Type 0} (IsAlike : List A → List B → Type 0) (front rest : List A) (whole : List B) : Type 0 where
  pub before : List B
  pub after : List B
  pub joined : whole ≡ before ++ after
  pub alike_before : IsAlike front before
  pub alike_after : IsAlike rest after

-- One more at the front of both.
split_more : {A B : Type 0} {IsAlike : List A → List B → Type 0} {front rest : List A} {whole : List B} (x : A) (y : B)
    (s : Split IsAlike front rest whole) → IsAlike (x ∷ front) (y ∷ s.before) → Split IsAlike (x ∷ front) rest (y ∷ whole)
split_more x y s k =
    record { before = y ∷ s.before; after = s.after; joined = ap (λ u. y ∷ u) s.joined; alike_before = k; alike_after = s.alike_after }

-- A list of moves in two parts, and the slots that are alike to each.
pub split_slots : (front rest : List Move) (slots : List Slot) → AreAlike (front ++ rest) slots → Split AreAlike front rest slots
split_slots [] rest slots h = record { before = []; after = slots; joined = refl; alike_before = ended; alike_after = h }
split_slots (x ∷ front) rest [] h = elim h [ ]
split_slots (x ∷ front) rest (y ∷ slots) (both e h) = let s = split_slots front rest slots h in split_more x y s (both e s.alike_before)

-- A list of slots in two parts, and the moves that are alike to each.
pub split_moves : (front rest : List Slot) (moves : List Move) → AreAlike moves (front ++ rest) →
    Split (λ ss ms. AreAlike ms ss) front rest moves
split_moves [] rest moves h = record { before = []; after = moves; joined = refl; alike_before = ended; alike_after = h }
split_moves (y ∷ front) rest [] h = elim h [ ]
split_moves (y ∷ front) rest (x ∷ moves) (both e h) = let s = split_moves front rest moves h in split_more y x s (both e s.alike_before)
