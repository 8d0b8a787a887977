-- What is proved of any relation holds of histories as maps and as lists.
use Rattle.std.proofs.Common.{ℕ, List}
use Rattle.std.specs.List.{ContainsAt as Has}
use Rattle.history.specs.Tokens.{Rule, Relation, Any, Lawful}
use Rattle.history.specs.Histories.{At, In, Agreeing, Unrepeated, Clear, Uninvented, From}
use Rattle.history.specs.Laws.{Always}
use Rattle.history.proofs.Agreement.{agree}
use Rattle.history.proofs.Repeats.{unrepeated}
use Rattle.history.proofs.Sends.{throughout}

always : {E : Type 0} (Fit : Rule E) (Claim : Relation E → Type 0) → ((Made : Relation E) (f : ℕ) → Lawful Fit Made f → Claim Made) → Always Fit Claim
always Fit Claim claimed = record { of_maps = λ f T law. claimed (At T) f law; of_lists = λ f H law. claimed (In H) f law }

pub histories_agree : (E : Type 0) → Always {E = E} Any Agreeing
histories_agree E = always Any Agreeing (agree Any)

pub no_id_twice : {E : Type 0} (id : E → ℕ) → Always (Clear id) (Unrepeated id)
no_id_twice id = always (Clear id) (Unrepeated id) (unrepeated id)

pub nothing_invented : {E : Type 0} (sent : List E) → Always (From sent) (Uninvented sent)
nothing_invented sent = always (From sent) (Uninvented sent) (throughout (Has sent))
