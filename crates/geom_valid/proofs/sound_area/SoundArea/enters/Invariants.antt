-- No hole so far has a point inside the other area.
use Rattle.im_matrix.specs.declared.Loc.TheVariants.{Interior}
use Rattle.point_set.specs.Rings.{edges_of}
use Rattle.geom_valid.proofs.RingLists.{NoneBefore}
use Rattle.valid_laws.specs.Entering.{Enters}
use Rattle.geom_valid.proofs.sound_area.SoundArea.enters.Given as goal

abbrev pub invariant-loop-hole : goal.invariant-loop-hole
invariant-loop-hole l = NoneBefore (λ ring. Enters (edges_of ring) l.other Interior) l.hole-items l.hole-index
