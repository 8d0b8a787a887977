-- Posts to a link, one after another.
use Rattle.std.specs.Prelude.{◌≡◌, ℕ, ◌+◌, true, false, List, [], ◌∷◌}
use Rattle.links.specs.Mail.{Mail}
use Rattle.links.specs.Calls.{Appended}

-- Frames are posted in their order; a post to a full box is missed, uncounted. Which boxes a post makes full is the link's.
pub data Posts : List (ℕ × List ℕ) → Mail → ℕ → Mail → Type 0 where
  done : {m : Mail} → Posts [] m 0 m
  made : {to k : ℕ} {frame : List ℕ} {rest : List (ℕ × List ℕ)} {m m₁ m₂ : Mail} → m.full to ≡ false → Appended m to frame m₁ → Posts rest m₁ k m₂ → Posts ((to, frame) ∷ rest) m (k + 1) m₂
  missed : {to k : ℕ} {frame : List ℕ} {rest : List (ℕ × List ℕ)} {m m₂ : Mail} → m.full to ≡ true → Posts rest m k m₂ → Posts ((to, frame) ∷ rest) m k m₂

-- No post on the way met a full box.
abbrev pub NoneMissed : {posted : List (ℕ × List ℕ)} {m m' : Mail} {k : ℕ} → Posts posted m k m' → Type 0
NoneMissed done = Unit {0}
NoneMissed (made room appended rest) = NoneMissed rest
NoneMissed (missed full rest) = ⊥
