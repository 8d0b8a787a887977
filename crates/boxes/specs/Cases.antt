-- What a box makes of a frame's contents, told by cases: for each answer, when it comes and what the record becomes.
use Rattle.std.specs.Prelude.{◌≡◌, ◌+◌, ◌<◌, ◌≤◌, true, false, ◌≢◌, ◌⊎◌, length, None, Ok, Err, Result}
use Rattle.std.specs.List.{AllByRecursion}
use Rattle.frames.specs.declared.plan.Plan.{Plan}
use Rattle.frames.specs.declared.Entry.{Entry}
use Rattle.frames.specs.Contents.{Token, Content, has, ids_of}
use Rattle.frames.specs.Contents.Content.{order, token}
use Rattle.history.specs.Histories.{Agree}
use Rattle.boxes.specs.declared.Outcome.{Outcome}
use Rattle.boxes.specs.declared.Outcome.TheVariants as outcome
use Rattle.boxes.specs.declared.BoxFault.{BoxFault}
use Rattle.boxes.specs.declared.BoxFault.TheVariants as fault
use Rattle.boxes.specs.Boxes.{Box, Used, log_ids, token_ids}
use Rattle.boxes.specs.Turns.{holding, logging, gap, opened}
use Rattle.boxes.specs.Handling.{meant, more}

-- A turn opens: the gap is 1, or 2 to f+1 while the predecessor is doubted.
abbrev pub Opens : Plan → Box → Token → Type 0
Opens p b t = (gap b t ≡ 1) ⊎ ((b.doubt ≡ true) × (2 ≤ gap b t) × (gap b t ≤ p.f + 1))

-- The token is more than a whole ring behind.
abbrev pub Behind : Plan → Box → Token → Type 0
Behind p b t = p.n < gap b t

-- The token is meant for this box and has no id of it above its last serial.
abbrev pub Expected : Plan → Box → Token → Type 0
Expected p b t = (meant p b.seat t ≡ true) × AllByRecursion (Used b) (token_ids t)

-- A token that is expected, with no turn open.
abbrev pub Ready : Plan → Box → Token → Type 0
Ready p b t = Expected p b t × (b.turn ≡ None)

-- An order is kept if its id is neither unordered nor in the log, and else known.
abbrev pub OrderHandled : Box → Entry → Result (Outcome (Unit {0})) BoxFault → Box → Type 0
OrderHandled b e (Ok outcome.Kept) b' = Used b e.id × (has e.id (ids_of b.unordered) ≡ false) × (has e.id (log_ids b.log) ≡ false) × (b' ≡ holding b e b.last)
OrderHandled b e (Ok outcome.Known) b' = Used b e.id × ((has e.id (ids_of b.unordered) ≡ true) ⊎ (has e.id (log_ids b.log) ≡ true)) × (b' ≡ b)
OrderHandled b e (Ok outcome.Waits) b' = ⊥
OrderHandled b e (Ok outcome.Stale) b' = ⊥
OrderHandled b e (Ok (outcome.Learned k)) b' = ⊥
OrderHandled b e (Ok (outcome.Opened tt)) b' = ⊥
OrderHandled b e (Err fault.Short) b' = ⊥
OrderHandled b e (Err fault.Plan) b' = ⊥
OrderHandled b e (Err fault.Off) b' = ⊥
OrderHandled b e (Err fault.Serials) b' = ⊥
OrderHandled b e (Err (fault.Frame q)) b' = ⊥
OrderHandled b e (Err fault.Sender) b' = (Used b e.id → ⊥) × (b' ≡ b)
OrderHandled b e (Err fault.Open) b' = ⊥
OrderHandled b e (Err fault.History) b' = ⊥
OrderHandled b e (Err fault.Rounds) b' = ⊥
OrderHandled b e (Err fault.Turn) b' = ⊥

-- A token, the topmost refusal first, and waiting between the open turn and the history.
abbrev pub TokenHandled : Plan → Box → Token → Result (Outcome (Unit {0})) BoxFault → Box → Type 0
TokenHandled p b t (Ok outcome.Kept) b' = ⊥
TokenHandled p b t (Ok outcome.Known) b' = ⊥
TokenHandled p b t (Ok outcome.Waits) b' = Ready p b t × (Opens p b t → ⊥) × (Behind p b t → ⊥) × (b' ≡ b)
TokenHandled p b t (Ok outcome.Stale) b' = Ready p b t × Behind p b t × Agree b.log t.decisions × (length t.decisions ≤ length b.log) × (b' ≡ b)
TokenHandled p b t (Ok (outcome.Learned k)) b' = Ready p b t × Behind p b t × Agree b.log t.decisions × (length b.log < length t.decisions) × (k ≡ more b t) × (b' ≡ logging b t.decisions None)
TokenHandled p b t (Ok (outcome.Opened tt)) b' = Ready p b t × Opens p b t × Agree b.log t.decisions × (b.awaited ≤ 999999) × (b' ≡ opened p b t)
TokenHandled p b t (Err fault.Short) b' = ⊥
TokenHandled p b t (Err fault.Plan) b' = ⊥
TokenHandled p b t (Err fault.Off) b' = ⊥
TokenHandled p b t (Err fault.Serials) b' = ⊥
TokenHandled p b t (Err (fault.Frame q)) b' = ⊥
TokenHandled p b t (Err fault.Sender) b' = (Expected p b t → ⊥) × (b' ≡ b)
TokenHandled p b t (Err fault.Open) b' = Expected p b t × (b.turn ≢ None) × (b' ≡ b)
TokenHandled p b t (Err fault.History) b' = Ready p b t × (Opens p b t ⊎ Behind p b t) × (Agree b.log t.decisions → ⊥) × (b' ≡ b)
TokenHandled p b t (Err fault.Rounds) b' = Ready p b t × Opens p b t × Agree b.log t.decisions × (999999 < b.awaited) × (b' ≡ b)
TokenHandled p b t (Err fault.Turn) b' = ⊥

-- What a box that is on makes of contents.
abbrev pub Handled : Plan → Box → Content → Result (Outcome (Unit {0})) BoxFault → Box → Type 0
Handled p b (order e) r b' = OrderHandled b e r b'
Handled p b (token t) r b' = TokenHandled p b t r b'
