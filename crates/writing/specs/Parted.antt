-- A token to be written, whose decisions are kept as all their entries beside their lengths.
use Rattle.std.specs.Prelude.{ℕ, List}
use Rattle.frames.specs.declared.Entry.{Entry}
use Rattle.frames.specs.Contents.{Token, parted}
use Rattle.writing.specs.declared.Draft.{Draft}

abbrev pub a_token : (sender stamp votes : ℕ) (proposal : List Entry) (lengths : List ℕ) (entries : List Entry) → Token
a_token s r v p cs es = record { sender = s; stamp = r; votes = v; proposal = p; decisions = parted cs es }

-- the contents of a draft
abbrev pub drafted : Draft → Token
drafted d = a_token d.sender d.stamp d.votes d.proposal.now d.lengths.now d.entries.now
