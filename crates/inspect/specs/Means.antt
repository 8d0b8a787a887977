-- What a text line means, and what is told and counted of it.
use Rattle.std.specs.Prelude.{◌≡◌, ℕ, List, Ok, Err, Result, ◌≢◌}
use Rattle.frames.specs.declared.plan.Plan.{Plan}
use Rattle.frames.specs.declared.Frame.{Frame}
use Rattle.frames.specs.Contents.{Content, Lawful, plan_byte}
use Rattle.frames.specs.Views.{view_of, shown}
use Rattle.lines.specs.declared.LineFault.{LineFault}
use Rattle.lines.specs.Reads.{line_as}
use Rattle.inspect.specs.declared.tally.Tally.{Tally}
use Rattle.inspect.specs.declared.texts.TextFault.{TextFault}
use Rattle.inspect.specs.declared.texts.TextFault.TheVariants as fault
use Rattle.inspect.specs.Form.{split_as}
use Rattle.inspect.specs.Counting.{one_frame, one_fault}
use Rattle.inspect.specs.Telling.{frame_words, fault_words}

pub data Outcome : Type 0 where
  frame : Content → Outcome
  refused : TextFault → Outcome

-- the text line has the form, with this plan's byte and this line
abbrev pub Asks : List ℕ → Plan → List ℕ → Type 0
Asks cs p line = split_as cs ≡ Ok (plan_byte p, line)

pub record IsFrame (cs : List ℕ) (c : Content) : Type 0 where
  pub plan : Plan
  pub line : List ℕ
  pub asks : Asks cs plan line
  pub reads : line_as plan line ≡ Ok c
  pub lawful : Lawful plan c

pub record NoPlan (cs : List ℕ) : Type 0 where
  pub byte : ℕ
  pub line : List ℕ
  pub split : split_as cs ≡ Ok (byte, line)
  pub none : (p : Plan) → plan_byte p ≢ byte

pub record NoFrame (cs : List ℕ) (e : LineFault) : Type 0 where
  pub plan : Plan
  pub line : List ℕ
  pub asks : Asks cs plan line
  pub refuses : line_as plan line ≡ Err e

abbrev pub Means : List ℕ → Outcome → Type 0
Means cs (frame c) = IsFrame cs c
Means cs (refused (fault.Form column)) = split_as cs ≡ Err (fault.Form column)
Means cs (refused (fault.Plan e)) = NoPlan cs
Means cs (refused (fault.Line e)) = NoFrame cs e

-- the frame that is handed out shows the contents
abbrev pub ReadsText : List ℕ → Result Frame TextFault → Type 0
ReadsText cs (Ok f) = (c : Content) × Means cs (frame c) × (view_of f ≡ shown c)
ReadsText cs (Err e) = Means cs (refused e)

abbrev pub words_of : Outcome → List ℕ
words_of (frame c) = frame_words c
words_of (refused e) = fault_words e

abbrev pub counted : Outcome → Tally → Tally
counted (frame c) = one_frame
counted (refused e) = one_fault

-- what the text line means is told and counted
pub record Told (cs words : List ℕ) (before after : Tally) : Type 0 where
  pub outcome : Outcome
  pub meant : Means cs outcome
  pub told : words ≡ words_of outcome
  pub tallied : after ≡ counted outcome before
