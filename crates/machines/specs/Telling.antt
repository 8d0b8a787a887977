-- A machine told a list of bodies.
use Rattle.std.specs.Prelude.{ℕ, List, fold}

-- the reading after the bodies, told in their order
abbrev pub told_all : {R : Type 0} → (R → List ℕ → R) → R → List (List ℕ) → R
told_all told r bodies = fold told r bodies
