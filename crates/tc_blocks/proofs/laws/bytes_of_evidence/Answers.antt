use Rattle.tc_blocks.proofs.Lemmas.Bytes.{entry_quiet}
use Rattle.tc_blocks.proofs.laws.bytes_of_evidence.Goals as goal

pub returns-clause-entry_bytes : goal.returns-clause-entry_bytes
returns-clause-entry_bytes c f e fits = entry_quiet f e fits
