-- When an area is valid by itself.
use Rattle.std.specs.Prelude.{[], ◌∷◌}
use Rattle.point_set.specs.Validity.{IsValid}
use Rattle.point_set.specs.declared.figure.Area.{Area}
use Rattle.point_set.specs.declared.figure.Figure.{Figure}

-- The figure of one area alone.
abbrev pub figure_of : Area → Figure
figure_of area = record { points = []; lines = []; areas = area ∷ [] }

-- An area is valid where the figure of this area alone is.
abbrev pub IsValidArea : Area → Type 0
IsValidArea area = IsValid (figure_of area)
