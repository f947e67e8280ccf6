-- One more geometry of a source.
use Rattle.std.proofs.Common.{◌≡◌, ℕ, ◌≤◌, List, [], ◌∷◌, ◌++◌, refl, subst, sym, arith, length, length-append}
use Rattle.std.specs.List.{All}
use Rattle.std.proofs.lemmas.List.Elements.{All-push}
use Rattle.point_set.specs.declared.figure.Figure.{Figure}
use Rattle.geosop_run.specs.Sources.{IsSound, IsGeometryAt, AreGeometries}
use Rattle.geosop_run.specs.Steps.{IsReadTo}

module _ (scale : ℕ) (bytes : List ℕ) where
  one_more_geometry : (at : ℕ) (figures : List Figure) (middle : ℕ) (f : Figure) (end : ℕ) → AreGeometries scale bytes at figures middle
      → IsGeometryAt scale bytes middle f end → AreGeometries scale bytes at (figures ++ f ∷ []) end
  one_more_geometry at [] middle f end h one =
      record { middle = end; first = subst (λ (n : ℕ). IsGeometryAt scale bytes n f end) (sym h) one; rest = refl }
  one_more_geometry at (g ∷ others) middle f end h one = record {
    middle = h.middle;
    first = h.first;
    rest = one_more_geometry h.middle others middle f end h.rest one;
  }

  -- the figures of a front of a source, each of which is sound
  pub record AreReadTo (figures : List Figure) (at : ℕ) : Type 0 where
    pub within : at ≤ length bytes
    pub onward : length figures ≤ at
    pub geometries : AreGeometries scale bytes 0 figures at
    pub sound : All IsSound figures

  pub read_more : (figures pushed : List Figure) (at : ℕ) (f : Figure) (end : ℕ) → pushed ≡ figures ++ f ∷ []
      → AreReadTo figures at → IsReadTo scale bytes at f end → AreReadTo pushed end
  read_more figures pushed at f end e h one =
      subst (λ (items : List Figure). AreReadTo items end) (sym e)
      (record {
        within = one.within;
        onward = omega (arith, length-append figures (f ∷ []), one.onward, h.onward);
        geometries = one_more_geometry 0 figures at f end h.geometries one.geometry;
        sound = All-push IsSound figures f h.sound one.sound;
      })
