use Rattle.ring_laws.proofs.laws.law_germ_is_the_same_between_edges.Goals as goal
use Rattle.ring_laws.proofs.Germs.Areas.{germ_same, clear_from}
use Rattle.point_set.specs.Location.{edges_of_rings, rings_of}

pub returns : goal.returns
returns c = record {
  same = λ area shaped v d e pointed clear g h is_g is_h.
      germ_same area shaped v d e pointed (clear_from v d e (edges_of_rings (rings_of area)) clear) g h is_g is_h;
}
