-- What a frame holds is told of it, whatever plan it was read for.
use Rattle.std.proofs.Common.{◌≡◌, ℕ, List, ◌++◌, codes, arith}
use Rattle.frames.specs.declared.plan.Plan.{Plan}
use Rattle.frames.specs.Contents.{Content, Lawful}
use Rattle.frames.specs.Contents.Content.{order, token}
use Rattle.frames.proofs.Written.{whole_entries, whole_decisions}
use Rattle.frames.specs.Views.{shown}
use Rattle.frames.specs.Views.View.{a_token}
use Rattle.parts.specs.Going.{entries_of, decisions_of}
use Rattle.parts.proofs.At.{entries_held}
use Rattle.parts.proofs.Splits.{decisions_held}
use Rattle.inspect.specs.Telling.{entry_lines, decision_lines, head_line, frame_words}

pub token_told : (p : Plan) (c : Content) (sender stamp votes decided : ℕ) (proposal decisions : List ℕ) → Lawful p c → a_token sender stamp votes proposal decided decisions ≡ shown c →
    head_line sender stamp votes ++ (entry_lines (codes "  proposed ") (entries_of proposal) ++ decision_lines 1 (decisions_of decisions)) ≡ frame_words c
token_told p (order e) sender stamp votes decided proposal decisions l v = let z : ◌≡◌ {A = ℕ} 0 1 = cc in absurd (omega arith)
token_told p (token k) sender stamp votes decided proposal decisions l v =
    let head : head_line sender stamp votes ≡ head_line k.sender k.stamp k.votes = cc in
    let proposed = entries_held proposal k.proposal (whole_entries p k.proposal l.proposal_lawful.each) (cc) in
    let agreed = decisions_held decisions k.decisions (whole_decisions p k.decisions l.decisions_lawful) (cc) in
    λ i. head i ++ (entry_lines (codes "  proposed ") (proposed i) ++ decision_lines 1 (agreed i))
