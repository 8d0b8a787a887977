use Rattle.lines.proofs.Back.{one_line_for}
use Rattle.lines.proofs.read_line.Goals as goal

pub returns-in_err-check_read-clause-alone : goal.returns-in_err-check_read-clause-alone
returns-in_err-check_read-clause-alone c = one_line_for

pub returns-clause-alone : goal.returns-clause-alone
returns-clause-alone c = one_line_for
