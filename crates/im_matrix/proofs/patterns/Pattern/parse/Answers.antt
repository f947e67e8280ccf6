use Rattle.im_matrix.proofs.PatternFaults.{faults_exactly}
use Rattle.im_matrix.proofs.patterns.Pattern.parse.Goals as goal

pub returns-clause-err : goal.returns-clause-err
returns-clause-err c = rw (← c.as_bytes.ensures.value) (faults_exactly c.as_bytes.result.now c.of.result c.of.ensures.ok c.of.ensures.err)
