-- The three clauses that speak of all points, by what edges enter: with nothing taken as proved elsewhere.
use Rattle.valid_laws.specs.Entering.{LawBeside, LawHoleOutside, LawHolesOverlap, LawElementsOverlap}
use Rattle.valid_laws.proofs.Edges.Moving.{moving}
use Rattle.valid_laws.proofs.Edges.Alone.{alone}
use Rattle.valid_laws.proofs.Entering.Beside as entering
use Rattle.valid_laws.proofs.Entering.Reach.{reaches}
use Rattle.valid_laws.proofs.Clauses.OverAllPoints as clauses

pub beside : LawBeside
beside = entering.beside moving alone

pub hole_outside : LawHoleOutside
hole_outside = clauses.hole_outside beside reaches

pub holes_overlap : LawHolesOverlap
holes_overlap = clauses.holes_overlap beside reaches

pub elements_overlap : LawElementsOverlap
elements_overlap = clauses.elements_overlap beside reaches
