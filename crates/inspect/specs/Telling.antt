-- What is told of frames and faults, in words.
use Rattle.std.specs.Prelude.{ℕ, ◌+◌, ◌-◌, ◌/◌, ◌%◌, cond, List, [], ◌∷◌, ◌++◌, codes, decimal, ◌==◌}
use Rattle.std.specs.List.{flat_map}
use Rattle.frames.specs.declared.Entry.{Entry}
use Rattle.frames.specs.Contents.{Content}
use Rattle.frames.specs.Contents.Content.{order, token}
use Rattle.lines.specs.Rows.{line_fault_words}
use Rattle.lines.specs.Digits.{line_of}
use Rattle.inspect.specs.declared.texts.TextFault.{TextFault}
use Rattle.inspect.specs.declared.texts.TextFault.TheVariants as fault
use Rattle.inspect.specs.declared.words.Role.{Role}
use Rattle.inspect.specs.declared.words.Role.TheVariants as role
use Rattle.inspect.specs.Form.{text_row}

-- an entry's id, the box and the serial that this tells, and its body
abbrev pub entry_words : Entry → List ℕ
entry_words e =
    line_of (e.id ∷ []) ++ (codes " (box " ++ (decimal (e.id / 16) ++ (codes ", serial " ++ (decimal (e.id % 16) ++ (codes "): " ++ line_of e.body)))))

abbrev pub entry_line : (prefix : List ℕ) → Entry → List ℕ
entry_line prefix e = prefix ++ (entry_words e ++ codes "\n")

-- a line for each entry
abbrev pub entry_lines : (prefix : List ℕ) → List Entry → List ℕ
entry_lines prefix = flat_map (entry_line prefix)

abbrev pub numbered : ℕ → List ℕ
numbered k = codes "  decision " ++ (decimal k ++ codes ": ")

-- what stands before each entry of a list
abbrev pub prefix_of : Role → List ℕ
prefix_of role.Order = codes "order "
prefix_of role.Proposed = codes "  proposed "
prefix_of (role.Decided k) = numbered k

-- decisions are numbered, from k on
abbrev pub decision_lines : ℕ → List (List Entry) → List ℕ
decision_lines k [] = []
decision_lines k (d ∷ ds) = entry_lines (numbered k) d ++ decision_lines (k + 1) ds

abbrev pub votes_words : ℕ → List ℕ
votes_words votes = cond (votes == 1) (codes "1 vote") (decimal votes ++ codes " votes")

-- a stamp is a round and one, and a dummy's is 0
abbrev pub head_line : (sender stamp votes : ℕ) → List ℕ
head_line sender stamp votes =
    cond (stamp == 0) (codes "dummy from box " ++ (decimal sender ++ codes "\n"))
    (codes "token from box " ++ (decimal sender ++ (codes ", round " ++ (decimal (stamp - 1) ++ (codes ", " ++ (votes_words votes ++ codes "\n"))))))

abbrev pub frame_words : Content → List ℕ
frame_words (order e) = entry_lines (codes "order ") (e ∷ [])
frame_words (token t) = head_line t.sender t.stamp t.votes ++ (entry_lines (codes "  proposed ") t.proposal ++ decision_lines 1 t.decisions)

-- the place if there is one, and the cause
abbrev pub place_and_cause : TextFault → List ℕ
place_and_cause (fault.Form column) = codes "column " ++ (decimal column ++ codes ", form")
place_and_cause (fault.Plan e) = codes "plan"
place_and_cause (fault.Line e) = line_fault_words e

abbrev pub fault_words : TextFault → List ℕ
fault_words e = codes "fault: row " ++ (decimal (text_row e) ++ (codes ", " ++ (place_and_cause e ++ codes "\n")))
