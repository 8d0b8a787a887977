use Rattle.lines.proofs.Back.{writes_back, one_line}
use Rattle.lines.proofs.line_bytes.Goals as goal

pub returns-in_err-check_bytes-clause-back : goal.returns-in_err-check_bytes-clause-back
returns-in_err-check_bytes-clause-back c = writes_back

pub returns-in_err-check_bytes-clause-alone : goal.returns-in_err-check_bytes-clause-alone
returns-in_err-check_bytes-clause-alone c = one_line

pub returns-clause-back : goal.returns-clause-back
returns-clause-back c = writes_back

pub returns-clause-alone : goal.returns-clause-alone
returns-clause-alone c = one_line
