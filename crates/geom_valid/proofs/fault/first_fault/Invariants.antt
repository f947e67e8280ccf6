-- No area so far fails a clause, and those so far are kept.
use Rattle.geom_valid.specs.Faults.{AreFirstAreas, AreSoundBefore}
use Rattle.geom_valid.proofs.fault.first_fault.Given as goal

abbrev pub invariant-loop-place : goal.invariant-loop-place
invariant-loop-place l = record { sound : AreSoundBefore l.f l.place; kept : AreFirstAreas l.f l.place l.earlier }
