use Rattle.std.proofs.Common.{◌≡◌, ◌++◌, map, List, [], ◌∷◌, ap, ◌∙◌}
use Rattle.plane_exact.specs.declared.point.Pt.{Pt}
use Rattle.point_set.specs.declared.figure.Figure.{Figure}
use Rattle.sample_figures.specs.Samples.{exchanged, figure_of_ring, figures_of_sample}
use Rattle.sample_figures.proofs.samples.sample.Goals as goal

-- two figures pushed on a list of none
two_pushed : (none one two : List Figure) (f g f' g' : Figure) → none ≡ [] → one ≡ none ++ f ∷ [] → two ≡ one ++ g ∷ [] → f ≡ f' → g ≡ g'
    → two ≡ f' ∷ g' ∷ []
two_pushed none one two f g f' g' empty first second is_f is_g =
    second ∙ ap (λ (fs : List Figure). fs ++ g ∷ []) (first ∙ ap (λ (fs : List Figure). fs ++ f ∷ []) empty)
    ∙ ap (λ (h : Figure). h ∷ g ∷ []) is_f ∙ ap (λ (h : Figure). f' ∷ h ∷ []) is_g

-- three figures pushed on a list of none
three_pushed : (none one two three : List Figure) (f g h f' g' h' : Figure) → none ≡ [] → one ≡ none ++ f ∷ [] → two ≡ one ++ g ∷ []
    → three ≡ two ++ h ∷ [] → f ≡ f' → g ≡ g' → h ≡ h' → three ≡ f' ∷ g' ∷ h' ∷ []
three_pushed none one two three f g h f' g' h' empty first second third is_f is_g is_h =
    third ∙ ap (λ (fs : List Figure). fs ++ h ∷ []) (two_pushed none one two f g f' g' empty first second is_f is_g)
    ∙ ap (λ (k : Figure). f' ∷ g' ∷ k ∷ []) is_h

pub returns-clause-a : goal.returns-clause-a
unfolding figures_of_sample
returns-clause-a c =
    two_pushed c.new-a.result c.push-4.new.self c.push-5.new.self c.in_ok-figure_of_ring-3.field-0 c.in_ok-squares_and_line.field-0 _ _
    c.new-a.ensures.empty c.in_ok-push-4.ensures.ok c.in_ok-push-5.ensures.ok
    (c.in_ok-figure_of_ring-3.ensures.figure ∙ ap figure_of_ring c.in_ok-ring.ensures.ring)
    c.in_ok-squares_and_line.ensures.figure

pub returns-clause-b : goal.returns-clause-b
unfolding figures_of_sample
returns-clause-b c =
    three_pushed c.new-b.result c.push.new.self c.push-2.new.self c.push-3.new.self c.in_ok-figure_of_ring.field-0
    c.in_ok-figure_of_ring-2.field-0 c.in_ok-points_in_row.field-0 _ _ _ c.new-b.ensures.empty c.in_ok-push.ensures.ok
    c.in_ok-push-2.ensures.ok c.in_ok-push-3.ensures.ok
    (c.in_ok-figure_of_ring.ensures.figure
    ∙ ap figure_of_ring (c.in_ok-exchanged.ensures.way ∙ ap (λ (way : List Pt). map exchanged way) c.in_ok-ring.ensures.ring))
    (c.in_ok-figure_of_ring-2.ensures.figure ∙ ap figure_of_ring c.in_ok-rectangle.ensures.ring)
    c.in_ok-points_in_row.ensures.figure
