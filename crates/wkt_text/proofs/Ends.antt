-- From everywhere the reader can come to an end.
use Rattle.std.proofs.Common.{◌≡◌, ℕ, zero, suc, Some, List, [], ◌∷◌, refl}
use Rattle.wkt_text.specs.declared.word.TypeWord.{TypeWord}
use Rattle.wkt_text.specs.declared.word.TypeWord.TheVariants as type
use Rattle.wkt_text.specs.declared.word.Tag.{Tag}
use Rattle.wkt_text.specs.declared.word.Tag.TheVariants.{Plain, Z, M, Zm}
use Rattle.wkt_text.specs.declared.number.Numeral.TheVariants.{Long}
use Rattle.wkt_text.specs.declared.token.Token.{Token}
use Rattle.wkt_text.specs.declared.token.Token.TheVariants as token
use Rattle.wkt_text.specs.declared.state.Role.{Role}
use Rattle.wkt_text.specs.declared.state.Rings.TheVariants.{Hole}
use Rattle.wkt_text.specs.declared.state.Membership.{Membership}
use Rattle.wkt_text.specs.declared.state.Membership.TheVariants.{Alone, Member}
use Rattle.wkt_text.specs.declared.state.Site.{Site}
use Rattle.wkt_text.specs.declared.state.Site.TheVariants as site
use Rattle.wkt_text.specs.declared.state.Step.{Step}
use Rattle.wkt_text.specs.declared.state.Step.TheVariants.{Start, Tagged, Body, Item, First, Second, Two, Three, After, Full, Done}
use Rattle.wkt_text.specs.declared.state.Control.{Control}
use Rattle.wkt_text.specs.Machine.{advance, step_ended}
use Rattle.wkt_text.proofs.Moves.{Move, move}
use Rattle.wkt_text.proofs.Parses.{at, Run}

abbrev pub Ends : Control → Type 0
Ends c = (moves : List Move) × Run c moves

by : {c c' : Control} (t : Token) (r : Role) → advance c t ≡ Some (r, c') → Ends c' → Ends c
by {c} {c'} t r e (moves, h) = (move t r ∷ moves, (c', e, h))

ends_ended : (d : ℕ) (tag : Tag) → Ends (at (step_ended d) site.Top d tag)
unfolding advance
ends_ended zero tag = ([], refl)
ends_ended (suc d) tag = by token.Close _ refl (ends_ended d tag)

ends_polygon : (many : Membership) (d : ℕ) (tag : Tag) → Ends (at After (site.Polygon many Hole) d tag)
unfolding advance
ends_polygon Alone d tag = by token.Close _ refl (ends_ended d tag)
ends_polygon Member d tag = by token.Close _ refl (by token.Close _ refl (ends_ended d tag))

ends_after : (s : Site) (d : ℕ) (tag : Tag) → Ends (at After s d tag)
unfolding advance
ends_after site.Top zero tag = by token.Close _ refl ([], refl)
ends_after site.Top (suc d) tag = by token.Close _ refl (ends_ended d tag)
ends_after site.Point d tag = by token.Close _ refl (ends_ended d tag)
ends_after (site.Line Alone) d tag = by token.Close _ refl (ends_ended d tag)
ends_after (site.Line Member) d tag = by token.Close _ refl (by token.Close _ refl (ends_ended d tag))
ends_after site.Points d tag = by token.Close _ refl (ends_ended d tag)
ends_after site.Element d tag = by token.Close _ refl (by token.Close _ refl (ends_ended d tag))
ends_after site.Lines d tag = by token.Close _ refl (ends_ended d tag)
ends_after site.Polygons d tag = by token.Close _ refl (ends_ended d tag)
ends_after (site.Polygon Alone rings) d tag = by token.Close _ refl (ends_ended d tag)
ends_after (site.Polygon Member rings) d tag = by token.Close _ refl (by token.Close _ refl (ends_ended d tag))
ends_after (site.Ring many kind) d tag = by token.Close _ refl (ends_polygon many d tag)

ends_full : (s : Site) (d : ℕ) (tag : Tag) → Ends (at Full s d tag)
unfolding advance
ends_full s d tag = let (moves, h) = ends_after s d tag in go moves h
  where
    go : (moves : List Move) → Run (at After s d tag) moves → Ends (at Full s d tag)
    go [] e = absurd (cc)
    go (x ∷ rest) h = (x ∷ rest, h)

ends_three : (s : Site) (d : ℕ) (tag : Tag) → Ends (at Three s d tag)
unfolding advance
ends_three s d tag = by token.Nan _ refl (ends_full s d tag)

ends_two : (s : Site) (d : ℕ) (tag : Tag) → Ends (at Two s d tag)
unfolding advance
ends_two s d Plain = by token.Nan _ refl (ends_three s d Plain)
ends_two s d Z = by token.Nan _ refl (ends_full s d Z)
ends_two s d M = by token.Nan _ refl (ends_full s d M)
ends_two s d Zm = by token.Nan _ refl (ends_three s d Zm)

ends_body : (kind : TypeWord) (s : Site) (d : ℕ) (tag : Tag) → Ends (at (Body kind) s d tag)
unfolding advance
ends_body kind s d tag = by token.Empty _ refl (ends_ended _ tag)

pub ends : (c : Control) → Ends c
unfolding advance
ends c = go c.step
  where
    go : (step : Step) → Ends (at step c.site c.depth c.tag)
    go Start = by (token.Type type.Point Z) _ refl (ends_body type.Point c.site c.depth Z)
    go (Tagged kind) = by token.Empty _ refl (ends_ended _ c.tag)
    go (Body kind) = ends_body kind c.site c.depth c.tag
    go Item = by token.Empty _ refl (ends_after _ c.depth c.tag)
    go First = by (token.Number Long) _ refl (by (token.Number Long) _ refl (ends_two c.site c.depth c.tag))
    go Second = by (token.Number Long) _ refl (ends_two c.site c.depth c.tag)
    go Two = ends_two c.site c.depth c.tag
    go Three = ends_three c.site c.depth c.tag
    go After = ends_after c.site c.depth c.tag
    go Full = ends_full c.site c.depth c.tag
    go Done = ([], refl)
