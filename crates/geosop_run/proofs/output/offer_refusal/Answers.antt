-- The pieces of a side that is too long are those of its line.
use Rattle.geosop_run.proofs.output.offer_refusal.Goals as goal

pub returns-in-TooLong : goal.returns-in-TooLong
returns-in-TooLong g c = rw (c.in-TooLong.is, ← c.side_name.ensures.name) c.offer_pieces.ensures
