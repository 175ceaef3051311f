-- `refused_bytes` meets its contract: the question's refusal 1 is numbered 11.
use Rattle.loading.proofs.weigh.refused_bytes.Goals as goal

pub returns : goal.returns
returns c = rw c.at.ensures
