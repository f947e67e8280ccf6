-- What tokens build is well shaped.
use Rattle.std.proofs.Common.{◌≡◌, ℕ, ◌+◌, ◌-◌, ◌<◌, ◌≤◌, ℤ, pos, negsuc, ◌≤ℤ◌, nat_lt, cond, Bool, true, false, Option, Some, None, Ok}
use Rattle.std.proofs.Common.{List, [], ◌∷◌, length, get_or, drop, take_while, codes, ◌==◌, sum_by, refl, sym, ap, subst, ◌∙◌, arith}
use Rattle.std.specs.List.{All}
use Rattle.std.specs.Ordering.{int_eq}
use Rattle.std.proofs.lemmas.Int.{ints}
use Rattle.std.proofs.lemmas.Bool.{ltb-true, ltb-false, and_parts}
use Rattle.std.proofs.lemmas.Bool.Decides.{Decides-int_eq}
use Rattle.std.proofs.lemmas.Option.{slice_get-get_or}
use Rattle.std.proofs.lemmas.List.Sums.{sum_by_push}
use Rattle.std.proofs.lemmas.List.{length_push}
use Rattle.std.proofs.lemmas.List.Elements.{All-nil, All-push}
use Rattle.plane_exact.specs.Places.{IsInLimit}
use Rattle.plane_exact.specs.declared.point.Pt.{Pt}
use Rattle.point_set.specs.declared.figure.Area.{Area}
use Rattle.point_set.specs.declared.figure.Figure.{Figure}
use Rattle.point_set.specs.Shape.{IsWayInLimit, IsLineShaped, IsClosed, IsRingShaped, IsAreaShaped, positions_of_area, positions_of}
use Rattle.point_set.specs.Shape.{IsWellShaped}
use Rattle.wkt_text.specs.declared.number.Numeral.{Numeral}
use Rattle.wkt_text.specs.declared.number.Numeral.TheVariants.{Long, Malformed, Fraction, Wide, Whole}
use Rattle.wkt_text.specs.declared.token.Token.{Token}
use Rattle.wkt_text.specs.declared.token.Token.TheVariants as token
use Rattle.wkt_text.specs.declared.state.Role.{Role}
use Rattle.wkt_text.specs.declared.state.Role.TheVariants as role
use Rattle.wkt_text.specs.declared.control.WktKind.TheVariants.{LineShort}
use Rattle.wkt_text.specs.declared.word.TypeWord.{TypeWord}
use Rattle.wkt_text.specs.declared.word.Tag.{Tag}
use Rattle.wkt_text.specs.Bytes.{is_numeric}
use Rattle.wkt_text.specs.Words.{tag_of, type_of}
use Rattle.text_laws.specs.Numbers.{signed, size_of, ratio_of, is_minus, is_formed}
use Rattle.text_laws.specs.Numbers as numbers
use Rattle.wkt_text.specs.Numbers.{numeral_of}
use Rattle.wkt_text.specs.Tokens.{tag_token, type_token, is_name, word_token, word_in, number_in, is_number_start, mark, token_in, place_of}
use Rattle.wkt_text.specs.Tokens.{lexeme_at}
use Rattle.wkt_text.specs.Faults.{Stands, Reads}
use Rattle.wkt_text.specs.Rules.{tokens_of}
use Rattle.wkt_text.specs.Spelling.{spelling}
use Rattle.wkt_text.proofs.Progress.{reads_whole}
use Rattle.wkt_text.proofs.Keeping.{Holds, AllTokens, holds_if, holds_value, holds_unless, ring_tests, kept_along}
use Rattle.std.specs.Char.{is_ascii_alphabetic}
use Rattle.wkt_text.specs.declared.build.Build.{Build}
use Rattle.plane_exact.specs.Limits.{most_positions}
use Rattle.wkt_text.specs.Limits.{most_bytes}
use Rattle.wkt_text.specs.Rules.{drop_fault, same_place, ends_meet, line_fault, ring_fault}
use Rattle.wkt_text.specs.Building.{place_value, with_x, with_point, with_position, with_line, with_area, begun, act_by, start_build}
use Rattle.plane_exact.specs.Limits.{limit}

-- A coordinate is within the limit.
abbrev IsNear : ℤ → Type 0
IsNear z = (negsuc 1048574 ≤ℤ z) × (z ≤ℤ pos 1048575)

abbrev pub IsNumeralNear : Numeral → Type 0
IsNumeralNear (Whole z) = IsNear z
IsNumeralNear other = Unit {0}

-- A number among tokens has a value within the limit, if any.
abbrev pub IsTokenNear : Token → Type 0
IsTokenNear (token.Number n) = IsNumeralNear n
IsTokenNear other = Unit {0}

abbrev IsXNear : Option ℤ → Type 0
IsXNear None = Unit {0}
IsXNear (Some z) = IsNear z

abbrev IsShellShaped : Option (List Pt) → Type 0
IsShellShaped None = Unit {0}
IsShellShaped (Some ring) = IsRingShaped ring

-- How many positions a shell has that is whole.
abbrev shell_length : Option (List Pt) → ℕ
shell_length None = 0
shell_length (Some ring) = length ring

pub record IsBuilt (b : Build) : Type 0 where
  points : IsWayInLimit b.figure.points
  lines : All IsLineShaped b.figure.lines
  areas : All IsAreaShaped b.figure.areas
  way : IsWayInLimit b.way
  shell : IsShellShaped b.shell
  holes : All IsRingShaped b.holes
  x : IsXNear b.x
  few : (((positions_of b.figure + length b.way) + shell_length b.shell) + sum_by length b.holes) + begun b.x ≤ b.count
  most : b.count ≤ most_positions

-- A build is well shaped by its parts.
built_of : {b : Build} →
    IsWayInLimit b.figure.points → All IsLineShaped b.figure.lines → All IsAreaShaped b.figure.areas → IsWayInLimit b.way →
    IsShellShaped b.shell → All IsRingShaped b.holes → IsXNear b.x →
    (((positions_of b.figure + length b.way) + shell_length b.shell) + sum_by length b.holes) + begun b.x ≤ b.count →
    b.count ≤ most_positions → IsBuilt b
built_of ps ls rs w s hs x f m = record { points = ps; lines = ls; areas = rs; way = w; shell = s; holes = hs; x = x; few = f; most = m }

value_near : (t : Token) (z : ℤ) → IsTokenNear t → place_value t ≡ Ok z → IsNear z
value_near (token.Number Long) z n e = absurd (cc)
value_near (token.Number Malformed) z n e = absurd (cc)
value_near (token.Number Fraction) z n e = absurd (cc)
value_near (token.Number Wide) z n e = absurd (cc)
value_near (token.Number (Whole y)) z n e = let same : y ≡ z = cc in subst IsNear same n
value_near other z n e = absurd (cc)

pub built_start : IsBuilt start_build
built_start =
    built_of (All-nil IsInLimit) (All-nil IsLineShaped) (All-nil IsAreaShaped) (All-nil IsInLimit) tt (All-nil IsRingShaped) tt
    (omega arith) (omega arith)

good_x : (b : Build) (z : ℤ) → IsBuilt b → IsNear z → b.count < most_positions → IsBuilt (with_x b z)
good_x b z h n c = built_of h.points h.lines h.areas h.way h.shell h.holes n (omega (arith, h.few)) (omega arith)

-- The count, where it is known what was begun.
few_with : (b : Build) (o : Option ℤ) → b.x ≡ o → IsBuilt b →
    (((positions_of b.figure + length b.way) + shell_length b.shell) + sum_by length b.holes) + begun o ≤ b.count
few_with b o e h =
    subst (λ o. (((positions_of b.figure + length b.way) + shell_length b.shell) + sum_by length b.holes) + begun o ≤ b.count) e h.few

-- The point that is ended is within the limit.
begun_near : (b : Build) (x z : ℤ) → b.x ≡ Some x → IsBuilt b → IsNear z → IsInLimit (record { x = x; y = z })
begun_near b x z e h n = let near = subst IsXNear e h.x in record { left = near.0; right = near.1; bottom = n.0; top = n.1 }

good_point : (b : Build) (o : Option ℤ) (z : ℤ) → b.x ≡ o → IsBuilt b → IsNear z → IsBuilt (with_point b o z)
good_point b None z e h n = h
good_point b (Some x) z e h n =
    built_of (All-push IsInLimit b.figure.points _ h.points (begun_near b x z e h n)) h.lines h.areas h.way h.shell h.holes tt
    (rw (length_push b.figure.points (record { x = x; y = z })) (omega (arith, few_with b (Some x) e h))) h.most

good_position : (b : Build) (o : Option ℤ) (z : ℤ) → b.x ≡ o → IsBuilt b → IsNear z → IsBuilt (with_position b o z)
good_position b None z e h n = h
good_position b (Some x) z e h n =
    built_of h.points h.lines h.areas (All-push IsInLimit b.way _ h.way (begun_near b x z e h n)) h.shell h.holes tt
    (rw (length_push b.way (record { x = x; y = z })) (omega (arith, few_with b (Some x) e h))) h.most

ends_meet_closed : (way : List Pt) → ends_meet way ≡ true → IsClosed way
ends_meet_closed [] e = refl
ends_meet_closed (p ∷ way) e =
    ap Some (same_from p (get_or (p ∷ way) (length (p ∷ way) - 1) p) e)
    ∙ sym (slice_get-get_or (p ∷ way) (length (p ∷ way) - 1) p (omega arith))
  where
    same_from : (p q : Pt) → same_place p q ≡ true → p ≡ q
    same_from p q h =
        let (xs, ys) = and_parts (int_eq p.x q.x) (int_eq p.y q.y) h in
        let ex : p.x ≡ q.x = (Decides-int_eq p.x q.x).0 xs in
        let ey : p.y ≡ q.y = (Decides-int_eq p.y q.y).0 ys in
        λ i. record { x = ex i; y = ey i }

ring_shaped : (way : List Pt) → IsWayInLimit way → ring_fault way ≡ None → IsRingShaped way
ring_shaped way near e =
    let (long, meet) = ring_tests (nat_lt (length way) 4) (ends_meet way) e in
    record { within = near; long = ltb-false (length way) 4 long; closed = ends_meet_closed way meet }

line_test : (short : Bool) → cond short (Some LineShort) None ≡ None → short ≡ false
line_test true e = absurd (cc)
line_test false e = refl

good_line : (b : Build) → IsBuilt b → Holds IsBuilt (act_by b role.EndLine token.Close)
good_line b h = holds_unless IsBuilt (line_fault b.way) (with_line b) (λ e.
    let shaped : IsLineShaped b.way = record { within = h.way; long = ltb-false (length b.way) 2 (line_test _ e) } in
    built_of h.points (All-push IsLineShaped b.figure.lines b.way h.lines shaped) h.areas (All-nil IsInLimit) h.shell h.holes h.x
    (rw (sum_by_push length b.figure.lines b.way) (omega (arith, h.few))) h.most)

good_shell : (b : Build) → IsBuilt b → Holds IsBuilt (act_by b role.EndShell token.Close)
good_shell b h = holds_unless IsBuilt (ring_fault b.way) _ (λ e.
    built_of h.points h.lines h.areas (All-nil IsInLimit) (ring_shaped b.way h.way e) h.holes h.x (omega (arith, h.few)) h.most)

good_hole : (b : Build) → IsBuilt b → Holds IsBuilt (act_by b role.EndHole token.Close)
good_hole b h = holds_unless IsBuilt (ring_fault b.way) _ (λ e.
    built_of h.points h.lines h.areas (All-nil IsInLimit) h.shell (All-push IsRingShaped b.holes b.way h.holes (ring_shaped b.way h.way e))
    h.x (omega (arith, h.few, sum_by_push length b.holes b.way)) h.most)

good_area : (b : Build) (o : Option (List Pt)) → b.shell ≡ o → IsBuilt b → IsBuilt (with_area b o)
good_area b None e h = h
good_area b (Some ring) e h =
    let shaped : IsRingShaped ring = subst IsShellShaped e h.shell in
    let few =
    subst (λ o. (((positions_of b.figure + length b.way) + shell_length o) + sum_by length b.holes) + begun b.x ≤ b.count) e h.few in
    let more : Area = record { shell = ring; holes = b.holes; group = b.group } in
    built_of h.points h.lines (All-push IsAreaShaped b.figure.areas more h.areas (record { shell = shaped; holes = h.holes })) h.way tt
    (All-nil IsRingShaped) h.x (rw (sum_by_push positions_of_area b.figure.areas more) (omega (arith, few))) h.most

same_built : (b : Build) → IsBuilt b → Holds IsBuilt (act_by b role.Group token.Open)
same_built b h = built_of h.points h.lines h.areas h.way h.shell h.holes h.x h.few h.most

-- A token whose value is within the limit keeps what is built well shaped.
good_act : (b : Build) (r : Role) (t : Token) → IsBuilt b → IsTokenNear t → Holds IsBuilt (act_by b r t)
good_act b role.Head t h n = h
good_act b role.Deep t h n = tt
good_act b role.Mark t h n = h
good_act b role.Group t h n = same_built b h
good_act b role.X t h n = holds_if IsBuilt (nat_lt b.count most_positions) _ _
    (λ e. holds_value IsBuilt t (with_x b) (λ z m. good_x b z h (value_near t z n m) (ltb-true b.count most_positions e))) (λ e. tt)
good_act b role.PointY t h n = holds_value IsBuilt t (with_point b b.x) (λ z m. good_point b b.x z refl h (value_near t z n m))
good_act b role.WayY t h n = holds_value IsBuilt t (with_position b b.x) (λ z m. good_position b b.x z refl h (value_near t z n m))
good_act b role.Demanded t h n = holds_unless IsBuilt (drop_fault t) b (λ e. h)
good_act b role.Further t h n = holds_unless IsBuilt (drop_fault t) b (λ e. h)
good_act b role.EndLine t h n = good_line b h
good_act b role.EndShell t h n = good_shell b h
good_act b role.EndHole t h n = good_hole b h
good_act b role.EndArea t h n = good_area b b.shell refl h

built_shaped : (b : Build) → IsBuilt b → IsWellShaped b.figure
built_shaped b h = record { points = h.points; lines = h.lines; areas = h.areas; few = omega (arith, h.few, h.most) }

-- ---- the values of tokens

near_if : (c : Bool) (s t : Token) → IsTokenNear s → IsTokenNear t → IsTokenNear (cond c s t)
near_if true s t h k = h
near_if false s t h k = k

tag_near : (o : Option Tag) → IsTokenNear (tag_token o)
tag_near None = tt
tag_near (Some t) = tt

type_near : (o : Option (TypeWord × Tag)) (p : Option Tag) → IsTokenNear (type_token o p)
type_near None p = tag_near p
type_near (Some r) p = tt

signed_near : (minus : Bool) (n : ℕ) → n ≤ limit → IsNear (signed minus n)
signed_near true n h = (omega (arith, ints), omega (arith, ints))
signed_near false n h = (omega (arith, ints), omega (arith, ints))

numeral_if : (c : Bool) (s t : Numeral) → (c ≡ true → IsNumeralNear s) → (c ≡ false → IsNumeralNear t) → IsNumeralNear (cond c s t)
numeral_if true s t h k = h refl
numeral_if false s t h k = k refl

numeral_near : (scale : ℕ) (text : List ℕ) → IsNumeralNear (numeral_of scale text)
numeral_near scale text =
    numeral_if (nat_lt most_bytes (length text)) _ _ (λ e. tt) (λ e.
    numeral_if (is_formed text) _ _ (λ f.
    numeral_if (numbers.is_whole (ratio_of text scale)) _ _ (λ w.
    numeral_if (nat_lt limit (size_of (ratio_of text scale))) _ _ (λ u. tt)
    (λ u. signed_near (is_minus text) (size_of (ratio_of text scale)) (ltb-false limit _ u)))
    (λ w. tt))
    (λ f. tt))

mark_near : (b : ℕ) → IsTokenNear (mark b)
mark_near b = near_if (b == 40) _ _ tt (near_if (b == 41) _ _ tt (near_if (b == 44) _ _ tt tt))

pair_if : (c : Bool) (s t : Token × ℕ) → IsTokenNear s.0 → IsTokenNear t.0 → IsTokenNear (cond c s t).0
pair_if true s t h k = h
pair_if false s t h k = k

token_near : (scale : ℕ) (text : List ℕ) → IsTokenNear (token_in scale text).0
token_near scale [] = tt
token_near scale (b ∷ rest) =
    pair_if (is_ascii_alphabetic b) (word_in (b ∷ rest)) _ (word_near (take_while is_ascii_alphabetic (b ∷ rest)))
    (pair_if (is_number_start b) (number_in scale (b ∷ rest)) (mark b, 1)
    (numeral_near scale (take_while is_numeric (b ∷ rest))) (mark_near b))
  where
    word_near : (word : List ℕ) → IsTokenNear (word_token word)
    word_near word =
        near_if (is_name word (codes "EMPTY")) _ _ tt (near_if (is_name word (codes "NAN")) _ _ tt (type_near (type_of word) (tag_of word)))

stands_near : (scale : ℕ) (bytes : List ℕ) (ts : List Token) (from last : ℕ) → Stands scale bytes from ts last → AllTokens IsTokenNear ts
unfolding lexeme_at
stands_near scale bytes [] from last h = tt
stands_near scale bytes (t ∷ ts) from last (e, h) =
    (subst IsTokenNear e (token_near scale (drop (place_of bytes from) bytes)), stands_near scale bytes ts _ last h)

-- The figure that a text says is well shaped.
pub reads_shaped : (scale : ℕ) (bytes : List ℕ) (from : ℕ) (figure : Figure) (last : ℕ) → Reads scale bytes from figure last →
    IsWellShaped figure
reads_shaped scale bytes from figure last r =
    let w = reads_whole scale bytes from figure last r in
    let near =
    subst (AllTokens IsTokenNear) (sym w.taken.tokens) (stands_near scale bytes (tokens_of (spelling r.geometry)) from last r.stands) in
    let built = kept_along IsBuilt IsTokenNear good_act w.taken.front start_build w.build built_start near w.taken.kept in
    subst IsWellShaped (sym w.says) (built_shaped w.build built)
