-- A text has one answer: white space alone, one reading, or one first fault.
use Rattle.std.proofs.Common.{◌≡◌, ℕ, ◌+◌, ◌≤◌, Err, List, [], ◌∷◌, ◌++◌, ◌⊎◌, inl, inr, length, drop, refl, sym, ap, subst, ◌∙◌, arith}
use Rattle.std.proofs.Common.{length-drop}
use Rattle.std.specs.List.{prefix_len}
use Rattle.std.proofs.lemmas.List.{append-nil, drop_all}
use Rattle.std.proofs.lemmas.Option.{some_pair_parts}
use Rattle.point_set.specs.declared.figure.Figure.{Figure}
use Rattle.wkt_text.specs.Bytes.{is_white}
use Rattle.wkt_text.specs.declared.word.TypeWord.{TypeWord}
use Rattle.wkt_text.specs.declared.word.TypeWord.TheVariants as type
use Rattle.wkt_text.specs.declared.word.Tag.{Tag}
use Rattle.wkt_text.specs.declared.token.Token.{Token}
use Rattle.wkt_text.specs.declared.token.Token.TheVariants as token
use Rattle.wkt_text.specs.declared.state.Control.{Control}
use Rattle.wkt_text.specs.declared.control.WktKind.{WktKind}
use Rattle.wkt_text.specs.declared.build.Build.{Build}
use Rattle.wkt_text.specs.declared.read.Parsed.{Parsed}
use Rattle.wkt_text.specs.declared.read.WktFault.{WktFault}
use Rattle.wkt_text.specs.declared.read.WktFault.TheVariants as fault
use Rattle.text_laws.proofs.Fronts.{list_all-whole, prefix_len-all}
use Rattle.wkt_text.specs.Tokens.{token_in, lexeme_at}
use Rattle.wkt_text.specs.Building.{act}
use Rattle.wkt_text.specs.Grammar.{Writing, joined, apart, Geometry, simple, empty_collection, collection, type_of_simple}
use Rattle.wkt_text.specs.Rules.{TokenRule, unruled, nested, Slot, slot, tokens_of}
use Rattle.wkt_text.specs.Spelling.{simple_then, gap_then, geometry_then, geometries_then, head_then, spelling}
use Rattle.wkt_text.specs.Faults.{Stands, Reads, IsRight, IsOnlyWhite, IsUnknownType, IsRagged, HasKind, breaks, unknown_type, ragged}
use Rattle.wkt_text.specs.Faults.{syntax, FirstFault}
use Rattle.wkt_text.specs.Results.{IsFirstFault, IsReadAs, IsFaultAt}
use Rattle.wkt_text.proofs.Parses.{start, Run}
use Rattle.wkt_text.proofs.Moves.{course}
use Rattle.wkt_text.proofs.Alike.{AreAlike, alike, alike_tokens, split_moves}
use Rattle.wkt_text.proofs.Splits.{kept_front, meets_stop}
use Rattle.wkt_text.proofs.Spells.{spelled_run}
use Rattle.wkt_text.proofs.Courses.{goes_split, err_same}
use Rattle.wkt_text.proofs.FirstFaults.{Taken, agrees_so, continues_taken, unknown_not_ragged}
use Rattle.wkt_text.proofs.Progress.{GoesOn, stands_compare, one_reading, right_front}

-- Where the white bytes come to the end, only white space follows.
pub white_to_end : (bytes : List ℕ) (from : ℕ) → from ≤ length bytes → from + prefix_len is_white (drop from bytes) ≡ length bytes →
    IsOnlyWhite bytes from
white_to_end bytes from within e = list_all-whole is_white (drop from bytes) (omega (arith, length-drop from bytes))

-- Where only white space follows, the white bytes come to the end.
pub end_of_white : (bytes : List ℕ) (from : ℕ) → from ≤ length bytes → IsOnlyWhite bytes from →
    from + prefix_len is_white (drop from bytes) ≡ length bytes
end_of_white bytes from within white =
    let e = prefix_len-all is_white (drop from bytes) white in
    omega (arith, length-drop from bytes)

white_end : (scale : ℕ) (bytes : List ℕ) (from : ℕ) → IsOnlyWhite bytes from → (lexeme_at scale bytes from).token ≡ token.End
unfolding lexeme_at
white_end scale bytes from white =
    let e = prefix_len-all is_white (drop from bytes) white in
    ap (λ u. (token_in scale u).0)
    (drop_all (from + prefix_len is_white (drop from bytes)) bytes (omega (arith, e, length-drop from bytes)))

head_first : (rule : TokenRule) (kind : TypeWord) (w : Writing) (rest : List Slot) →
    (t : Tag) × (more : List Token) × (tokens_of (head_then rule kind w rest) ≡ token.Type kind t ∷ more)
head_first rule kind (joined t) rest = (t, _, refl)
head_first rule kind (apart t) rest = (_, _, refl)

-- The text of a geometry begins with its type word.
abbrev pub type_of_geometry : Geometry → TypeWord
type_of_geometry (simple w b) = type_of_simple b
type_of_geometry (empty_collection w) = type.GeometryCollection
type_of_geometry (collection w g gs) = type.GeometryCollection

pub spelling_first : (g : Geometry) → (t : Tag) × (more : List Token) × (tokens_of (spelling g) ≡ token.Type (type_of_geometry g) t ∷ more)
spelling_first (simple w b) = head_first unruled (type_of_simple b) w (simple_then b [])
spelling_first (empty_collection w) = head_first (nested 0) type.GeometryCollection w (gap_then [])
spelling_first (collection w g gs) =
    let closed = slot token.Close unruled ∷ [] in
    head_first (nested 0) type.GeometryCollection w (slot token.Open unruled ∷ geometry_then g 1 (geometries_then gs 1 closed))

pub type_is_no_end : (kind : TypeWord) (t : Tag) → ◌≡◌ {A = Token} token.End (token.Type kind t) → ⊥
type_is_no_end kind t e = cc

-- Where only white space follows, nothing is read.
pub white_unread : (scale : ℕ) (bytes : List ℕ) (from : ℕ) (figure : Figure) (last : ℕ) → IsOnlyWhite bytes from →
    Reads scale bytes from figure last → ⊥
white_unread scale bytes from figure last white r =
    let (t, more, e) = spelling_first r.geometry in
    first_not_end (type_of_geometry r.geometry) t more (subst (λ u. Stands scale bytes from u last) e r.stands)
  where
    first_not_end : (kind : TypeWord) (t : Tag) (more : List Token) → Stands scale bytes from (token.Type kind t ∷ more) last → ⊥
    first_not_end kind t more (e, h) = type_is_no_end kind t (sym (white_end scale bytes from white) ∙ e)

-- What was read is the one reading.
pub read_as : (scale : ℕ) (bytes : List ℕ) (from : ℕ) (p : Parsed) (figure : Figure) (last : ℕ) → Reads scale bytes from p.figure p.«end» →
    Reads scale bytes from figure last → (p.figure ≡ figure) × (p.«end» ≡ last)
read_as scale bytes from p figure last r s = one_reading scale bytes from p.figure figure p.«end» last r s

-- Where a fault was found, nothing is read, unless memory was wanting.
pub fault_read_as : (scale : ℕ) (bytes : List ℕ) (from : ℕ) (e : WktFault) (figure : Figure) (last : ℕ) → IsFirstFault e scale bytes from →
    Reads scale bytes from figure last → IsReadAs (Err e) figure last
fault_read_as scale bytes from (fault.Bad kind place) figure last f r = f.unread figure last r
fault_read_as scale bytes from fault.NoMemory figure last f r = tt

-- ---- one first fault

-- The tokens before a first fault go no further than those before another.
fault_ends : (ts more us : List Token) (t : Token) → (IsRight (ts ++ t ∷ []) → ⊥) → IsRight us → (u : Token) → u ≡ t →
    us ≡ ts ++ u ∷ more → ⊥
fault_ends ts more us t wrong right u same e =
    wrong (subst (λ v. IsRight (ts ++ v ∷ [])) same (right_front ts more u (subst IsRight e right)))

-- What is right, the reader takes.
record RightTaken (ts : List Token) : Type 0 where
  control : Control
  build : Build
  taken : Taken ts control build

right_whole : (ts : List Token) → IsRight ts → RightTaken ts
right_whole ts r =
    let g = r.geometry in
    let s = split_moves r.front r.rest (course g) (subst (λ u. AreAlike (course g) u) r.spelled (alike g)) in
    let (c, goes, h) = goes_split s.before s.after start (subst (λ u. Run start u) s.joined (spelled_run g)) in
    let a = agrees_so g (s.before ++ s.after) (r.front ++ r.rest) s.joined r.spelled in
    let b = kept_front s.before s.after r.front r.rest a s.alike_before r.kept in
    record {
      control = c;
      build = b.0;
      taken = record { front = s.before; tokens = alike_tokens s.alike_before ∙ r.tokens; goes = goes; kept = b.1 };
    }

not_both : (ts : List Token) (t : Token) → IsRight ts → IsUnknownType ts t → IsRagged ts t → ⊥
not_both ts t right u v = let w = right_whole ts right in unknown_not_ragged ts w.control w.build t w.taken u v

-- A token after right ones has one kind.
pub one_kind : (ts : List Token) (t : Token) (j k : WktKind) → IsRight ts → HasKind ts t j → HasKind ts t k → j ≡ k
one_kind ts t j k right (breaks r n e) (breaks r' n' e') =
    let w = right_whole ts right in
    let m = continues_taken ts w.control w.build t r w.taken n in
    let m' = continues_taken ts w.control w.build t r' w.taken n' in
    let same = (some_pair_parts m.role m'.role m.control m'.control (sym m.next ∙ m'.next)).0 in
    err_same (sym (meets_stop m.meets e) ∙ ap (λ u. act w.build u t) same ∙ meets_stop m'.meets e')
one_kind ts t j k right (breaks r n e) (unknown_type f u) = absurd (f r n)
one_kind ts t j k right (breaks r n e) (ragged f u) = absurd (f r n)
one_kind ts t j k right (breaks r n e) (syntax f u v) = absurd (f r n)
one_kind ts t j k right (unknown_type f u) (breaks r n e) = absurd (f r n)
one_kind ts t j k right (ragged f u) (breaks r n e) = absurd (f r n)
one_kind ts t j k right (syntax f u v) (breaks r n e) = absurd (f r n)
one_kind ts t j k right (unknown_type f u) (unknown_type g v) = refl
one_kind ts t j k right (unknown_type f u) (ragged g v) = absurd (not_both ts t right u v)
one_kind ts t j k right (unknown_type f u) (syntax g v w) = absurd (v u)
one_kind ts t j k right (ragged f u) (unknown_type g v) = absurd (not_both ts t right v u)
one_kind ts t j k right (ragged f u) (ragged g v) = refl
one_kind ts t j k right (ragged f u) (syntax g v w) = absurd (w u)
one_kind ts t j k right (syntax f u v) (unknown_type g w) = absurd (u w)
one_kind ts t j k right (syntax f u v) (ragged g w) = absurd (v w)
one_kind ts t j k right (syntax f u v) (syntax g w x) = refl

pub one_fault : (scale : ℕ) (bytes : List ℕ) (from : ℕ) (j k : WktKind) (p q : ℕ) → FirstFault scale bytes from j p →
    FirstFault scale bytes from k q → (j ≡ k) × (p ≡ q)
one_fault scale bytes from j k p q f g = go (stands_compare scale bytes f.before g.before from f.after g.after f.stands g.stands)
  where
    same : f.before ≡ g.before → f.after ≡ g.after → (j ≡ k) × (p ≡ q)
    same e a =
        let t = ap (λ u. (lexeme_at scale bytes u).token) a in (
          one_kind g.before _ j k g.right
              (subst (λ u. HasKind u (lexeme_at scale bytes g.after).token j) e (subst (λ u. HasKind f.before u j) t f.kind_is)) g.kind_is,
          f.place_is ∙ ap (λ u. (lexeme_at scale bytes u).start) a ∙ sym g.place_is,
        )

    left : (more : List Token) → g.before ≡ f.before ++ more → Stands scale bytes f.after more g.after → (j ≡ k) × (p ≡ q)
    left [] e h = same (sym (e ∙ append-nil f.before)) h
    left (u ∷ more) e (first, h) = absurd (fault_ends f.before more g.before _ f.wrong g.right u (sym first) e)

    right_side : (more : List Token) → f.before ≡ g.before ++ more → Stands scale bytes g.after more f.after → (j ≡ k) × (p ≡ q)
    right_side [] e h = same (e ∙ append-nil g.before) (sym h)
    right_side (u ∷ more) e (first, h) = absurd (fault_ends g.before more f.before _ g.wrong f.right u (sym first) e)

    go : GoesOn scale bytes f.before g.before f.after g.after ⊎ GoesOn scale bytes g.before f.before g.after f.after → (j ≡ k) × (p ≡ q)
    go (inl on) = left on.more on.joined on.stands
    go (inr on) = right_side on.more on.joined on.stands

-- Where a fault was found, it is the first fault, unless memory was wanting.
pub fault_as : (scale : ℕ) (bytes : List ℕ) (from : ℕ) (e : WktFault) (kind : WktKind) (place : ℕ) → IsFirstFault e scale bytes from →
    FirstFault scale bytes from kind place → IsFaultAt (Err e) kind place
fault_as scale bytes from (fault.Bad j p) kind place f g = one_fault scale bytes from j kind p place f g
fault_as scale bytes from fault.NoMemory kind place f g = tt
