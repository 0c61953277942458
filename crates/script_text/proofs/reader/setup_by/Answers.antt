use Rattle.script_text.proofs.ReaderLemmas.{start_is_begun}
use Rattle.script_text.proofs.reader.setup_by.Goals as goal

pub returns-clause-begun : goal.returns-clause-begun
returns-clause-begun c =
    let s = c.in-Start in
    let made = c.in_ok-config-in-Start.ensures in
    rw s.is (start_is_begun s.replicas s.conits s.alpha s.loan c.in_ok-config-in-Start.config made.ok made.sound)
