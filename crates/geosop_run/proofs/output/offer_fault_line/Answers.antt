-- The pieces of each arm are those of the status's line.
use Rattle.geosop_run.proofs.output.offer_fault_line.Goals as goal

pub returns-in-Usage-clause-offered : goal.returns-in-Usage-clause-offered
returns-in-Usage-clause-offered g c = rw c.in-Usage.is c.offer_usage_fault.ensures.offered

pub returns-in-ReadFault-clause-offered : goal.returns-in-ReadFault-clause-offered
returns-in-ReadFault-clause-offered g c = rw c.in-ReadFault.is c.offer_pieces.ensures.offered
